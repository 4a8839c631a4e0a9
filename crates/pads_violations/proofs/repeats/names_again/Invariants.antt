use Rattle.std.proofs.Common.{◌≡◌, take, drop, [], map}
use Rattle.pads_rules.specs.declared.rule.Rule.TheVariants as rule
use Rattle.pads_rules.specs.DeclRules.{same_name}
use Rattle.pads_rules.specs.Faults.{breaks, again, lesser, least}
use Rattle.pads_piece_rules.proofs.MetNames.{Has}
use Rattle.pads_violations.proofs.repeats.names_again.Given as goal

abbrev pub invariant-loop-name : goal.invariant-loop-name
invariant-loop-name l = record {
  told : lesser l.best (least (again same_name (λ name. breaks rule.NameAgain name.at) (take l.name-index (map (λ name. name.now) l.names)) (drop l.name-index (map (λ name. name.now) l.names)))) ≡ least (again same_name (λ name. breaks rule.NameAgain name.at) [] (map (λ name. name.now) l.names));
  met : Has (λ name. name.now.text) l.met (take l.name-index l.names);
}
