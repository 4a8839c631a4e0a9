use Rattle.std.proofs.Common.{◌≡◌, take, drop, []}
use Rattle.pads_rules.specs.declared.rule.Rule.TheVariants as rule
use Rattle.pads_rules.specs.DeclRules.{same_spelling, spelling_of}
use Rattle.pads_rules.specs.Faults.{breaks, again, lesser, least}
use Rattle.pads_piece_rules.proofs.MetNames.{Has}
use Rattle.pads_violations.proofs.repeats.spellings_again.Given as goal

abbrev pub invariant-loop-label : goal.invariant-loop-label
invariant-loop-label l = record {
  told : lesser l.best (least (again same_spelling (λ label. breaks rule.SpellingAgain (spelling_of label).1) (take l.label-index l.labels) (drop l.label-index l.labels))) ≡ least (again same_spelling (λ label. breaks rule.SpellingAgain (spelling_of label).1) [] l.labels);
  met : Has (λ label. (spelling_of label).0) l.met (take l.label-index l.labels);
}
