use Rattle.std.proofs.Common.{sym}
use Rattle.pads_violations.proofs.WalkLemmas.{told-none}
use Rattle.pads_rules.specs.Pieces.{OfParam}
use Rattle.pads_ast.specs.declared.types.Param.{Param}
use Rattle.pads_piece_rules.specs.Told.{stands}
use Rattle.pads_violations.proofs.BodyLemmas.{mapped-step}
use Rattle.pads_violations.proofs.bodies.params.Goals as goal

pub loop-param-init : goal.loop-param-init
loop-param-init c = sym (told-none (stands c.args.site.now))

pub loop-param-preserved : goal.loop-param-preserved
loop-param-preserved c =
    rw (c.lesser-best.ensures.least, c.loop-param.invariant, c.of_param.ensures.told)
    (mapped-step (stands c.args.site.now) (λ (p : Param). OfParam p.of) c.args.params.now c.loop-param.param-index c.param-item.result c.loop-param-test.true c.param-item.is)
