use Rattle.std.proofs.Common.{◌∙◌, length}
use Rattle.pads_declared.specs.Meanings.{meant}
use Rattle.pads_judge.specs.Scopes.{names_in_scope}
use Rattle.pads_piece_rules.specs.Told.{stands, at_argument, argument_told}
use Rattle.pads_piece_rules.proofs.PieceLemmas.{same-arguments}
use Rattle.pads_piece_rules.proofs.Steps.{none-lesser, enumerated-step, enumerated-end}
use Rattle.pads_piece_rules.proofs.arguments.arguments.Goals as goal

pub loop-number-init : goal.loop-number-init
loop-number-init c = none-lesser _

pub loop-number-preserved : goal.loop-number-preserved
unfolding argument_told
loop-number-preserved c =
    rw (c.lesser-best.ensures.least, c.argument-wrong.ensures.told)
    (enumerated-step (at_argument (stands c.args.site.now) (names_in_scope c.args.scope.now) (meant c.meaning_at-meaning.result) (length c.args_of-args.result.now)) c.args_of-args.result.now
    c.loop-number.number c.index-args-number.result c.loop-number.best c.loop-number-test.true c.index-args-number.is ∙ c.loop-number.invariant)

pub returns : goal.returns
returns c = record {
  told =
      enumerated-end (at_argument (stands c.args.site.now) (names_in_scope c.args.scope.now) (meant c.meaning_at-meaning.result) (length c.args_of-args.result.now)) c.args_of-args.result.now
      c.loop-number.number c.loop-number.best _ c.loop-number-test.false
      (c.loop-number.invariant ∙ same-arguments (stands c.args.site.now) (names_in_scope c.args.scope.now) c.args.of.now (meant c.meaning_at-meaning.result) c.args_of-args.result.now c.meaning_at-meaning.ensures.meaning c.args_of-args.ensures.items);
}
