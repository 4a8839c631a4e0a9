use Rattle.std.proofs.Common.{◌∙◌, ap}
use Rattle.pads_ast.specs.declared.decl.Label.{Label}
use Rattle.pads_rules.specs.declared.rule.Rule.TheVariants as rule
use Rattle.pads_rules.specs.DeclRules.{same_spelling, spelling_of}
use Rattle.pads_rules.specs.Faults.{breaks}
use Rattle.pads_rules.specs.Texts.{is_among}
use Rattle.pads_violations.specs.Repeats.{spellings_again_told}
use Rattle.pads_piece_rules.proofs.Steps.{none-lesser, again-end}
use Rattle.pads_violations.proofs.RepeatSteps.{plain-step}
use Rattle.pads_piece_rules.proofs.MetNames.{has-more}
use Rattle.pads_violations.proofs.repeats.spellings_again.Goals as goal

pub loop-label-init : goal.loop-label-init
loop-label-init c = record { told = none-lesser _; met = λ t. ap (λ names. is_among names t) c.new-met.ensures.empty }

pub loop-label-preserved : goal.loop-label-preserved
loop-label-preserved c = record {
  told =
      rw (c.lesser-best.ensures.least, c.fault_if.ensures.least, c.in_ok-again.ensures.again, c.spelling_place.ensures.place, c.loop-label.invariant.met)
      (plain-step same_spelling (λ label. breaks rule.SpellingAgain (spelling_of label).1) c.args.labels.now c.loop-label.label-index c.label-item.result c.loop-label.best c.loop-label-test.true c.label-item.is
      ∙ c.loop-label.invariant.told);
  met = has-more (λ (label : Label). (spelling_of label).0) _ _ c.args.labels.now c.loop-label.label-index c.label-item.result c.loop-label-test.true c.label-item.is c.in_ok-again.ensures.met c.loop-label.invariant.met;
}

pub returns : goal.returns
unfolding spellings_again_told
returns c = record { told = again-end same_spelling (λ label. breaks rule.SpellingAgain (spelling_of label).1) c.args.labels.now c.loop-label.label-index c.loop-label.best _ c.loop-label-test.false c.loop-label.invariant.told }
