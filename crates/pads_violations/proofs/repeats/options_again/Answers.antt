use Rattle.std.proofs.Common.{◌∙◌}
use Rattle.pads_rules.specs.declared.rule.Rule.TheVariants as rule
use Rattle.pads_rules.specs.DeclRules.{same_option, option_place}
use Rattle.pads_rules.specs.Faults.{breaks}
use Rattle.pads_violations.specs.Repeats.{options_again_told}
use Rattle.pads_piece_rules.proofs.Steps.{none-lesser, again-end}
use Rattle.pads_violations.proofs.RepeatSteps.{plain-step}
use Rattle.pads_violations.proofs.MetOptionKinds.{kinds-none, kinds-more}
use Rattle.pads_violations.proofs.repeats.options_again.Goals as goal

pub loop-option-init : goal.loop-option-init
loop-option-init c = record { told = none-lesser _; met = kinds-none }

pub loop-option-preserved : goal.loop-option-preserved
loop-option-preserved c = record {
  told =
      rw (c.lesser-best.ensures.least, c.fault_if.ensures.least, c.add-again.ensures.again, c.option_place.ensures.place, c.loop-option.invariant.met)
      (plain-step same_option (λ option. breaks rule.NameAgain (option_place option)) c.args.options.now c.loop-option.option-index c.option-item.result c.loop-option.best c.loop-option-test.true c.option-item.is
      ∙ c.loop-option.invariant.told);
  met = kinds-more _ _ c.args.options.now c.loop-option.option-index c.option-item.result c.loop-option-test.true c.option-item.is c.add-again.ensures.met c.loop-option.invariant.met;
}

pub returns : goal.returns
unfolding options_again_told
returns c = record { told = again-end same_option (λ option. breaks rule.NameAgain (option_place option)) c.args.options.now c.loop-option.option-index c.loop-option.best _ c.loop-option-test.false c.loop-option.invariant.told }
