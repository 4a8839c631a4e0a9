use Rattle.std.proofs.Common.{◌≡◌, take, drop, []}
use Rattle.pads_rules.specs.declared.rule.Rule.TheVariants as rule
use Rattle.pads_rules.specs.DeclRules.{same_option, option_place}
use Rattle.pads_rules.specs.Faults.{breaks, again, lesser, least}
use Rattle.pads_violations.proofs.MetOptionKinds.{HasKinds}
use Rattle.pads_violations.proofs.repeats.options_again.Given as goal

abbrev pub invariant-loop-option : goal.invariant-loop-option
invariant-loop-option l = record {
  told : lesser l.best (least (again same_option (λ option. breaks rule.NameAgain (option_place option)) (take l.option-index l.options) (drop l.option-index l.options))) ≡ least (again same_option (λ option. breaks rule.NameAgain (option_place option)) [] l.options);
  met : HasKinds l.met (take l.option-index l.options);
}
