use Rattle.std.proofs.Common.{sym}
use Rattle.pads_violations.proofs.WalkLemmas.{told-none}
use Rattle.pads_rules.specs.Pieces.{option_pieces}
use Rattle.pads_judge.specs.Scopes.{names_in_scope}
use Rattle.pads_piece_rules.specs.Told.{stands}
use Rattle.pads_violations.proofs.BodyLemmas.{made-step}
use Rattle.pads_violations.proofs.bodies.array_options.Goals as goal

pub loop-option-init : goal.loop-option-init
loop-option-init c = sym (told-none (stands c.args.site.now))

pub loop-option-preserved : goal.loop-option-preserved
loop-option-preserved c =
    rw (c.lesser-best.ensures.least, c.loop-option.invariant, c.array_option.ensures.told)
    (made-step (stands c.args.site.now) (option_pieces (names_in_scope c.args.scope.now)) c.args.options.now c.loop-option.option-index c.option-item.result c.loop-option-test.true c.option-item.is)
