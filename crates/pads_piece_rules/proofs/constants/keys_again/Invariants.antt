use Rattle.std.proofs.Common.{◌≡◌, take, drop, []}
use Rattle.pads_rules.specs.declared.rule.Rule.TheVariants as rule
use Rattle.pads_rules.specs.Faults.{breaks, again, lesser, least}
use Rattle.pads_rules.specs.PieceRules.{same_const, const_place}
use Rattle.pads_piece_rules.specs.Told.{keys_of}
use Rattle.pads_piece_rules.proofs.ConstLemmas.{HasKeys}
use Rattle.pads_piece_rules.proofs.constants.keys_again.Given as goal

abbrev pub invariant-loop-case : goal.invariant-loop-case
invariant-loop-case l = record {
  told :
      lesser l.best (least (again same_const (λ key. breaks rule.CaseAgain (const_place key)) (take l.case-index (keys_of l.cases)) (drop l.case-index (keys_of l.cases))))
      ≡ least (again same_const (λ key. breaks rule.CaseAgain (const_place key)) [] (keys_of l.cases));
  met : HasKeys l.met (take l.case-index l.cases);
}
