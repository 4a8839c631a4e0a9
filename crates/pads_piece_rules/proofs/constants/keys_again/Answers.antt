use Rattle.std.proofs.Common.{◌≤◌, ◌∙◌, length}
use Rattle.std.proofs.lemmas.List.{length-map}
use Rattle.pads_ast.specs.declared.decl.Case.{Case}
use Rattle.pads_rules.specs.declared.rule.Rule.TheVariants as rule
use Rattle.pads_rules.specs.Faults.{breaks}
use Rattle.pads_rules.specs.PieceRules.{same_const, const_place}
use Rattle.pads_piece_rules.specs.Told.{keys_of, again_told}
use Rattle.pads_piece_rules.proofs.ConstLemmas.{keys-more}
use Rattle.pads_piece_rules.proofs.Steps.{none-lesser, again-step, again-end}
use Rattle.pads_piece_rules.proofs.constants.keys_again.Goals as goal

pub loop-case-init : goal.loop-case-init
loop-case-init c = record { told = none-lesser _; met = c.new-met.ensures.empty }

pub loop-case-preserved : goal.loop-case-preserved
loop-case-preserved c = record {
  told =
      rw (c.lesser-best.ensures.least, c.fault_if.ensures.least, c.in_ok-again.ensures.again, c.const_place.ensures.place, c.loop-case.invariant.met)
      (again-step same_const (λ key. breaks rule.CaseAgain (const_place key)) (λ (k : Case). k.key) c.args.cases.now c.loop-case.case-index c.case-item.result c.loop-case.best
      c.loop-case-test.true c.case-item.is ∙ c.loop-case.invariant.told);
  met = keys-more c.loop-case.met c.add.new.self c.args.cases.now c.loop-case.case-index c.case-item.result c.loop-case-test.true c.case-item.is c.in_ok-again.ensures.added c.loop-case.invariant.met;
}

pub returns : goal.returns
unfolding again_told
returns c =
    let over : length (keys_of c.args.cases.now) ≤ c.loop-case.case-index = rw (length-map c.args.cases.now (λ (k : Case). k.key)) c.loop-case-test.false in
    record { told = again-end same_const (λ key. breaks rule.CaseAgain (const_place key)) (keys_of c.args.cases.now) c.loop-case.case-index c.loop-case.best _ over c.loop-case.invariant.told }
