use Rattle.std.proofs.Common.{◌∙◌}
use Rattle.pads_ast.specs.declared.decl.Case.{Case}
use Rattle.pads_piece_rules.specs.Told.{at_key}
use Rattle.pads_piece_rules.proofs.PieceLemmas.{keys-end}
use Rattle.pads_piece_rules.proofs.Steps.{each-step}
use Rattle.pads_piece_rules.proofs.constants.keys.Goals as goal

pub loop-case-preserved : goal.loop-case-preserved
loop-case-preserved c =
    rw (c.lesser-best.ensures.least, c.loop-case.invariant, c.fault_if.ensures.least, c.agrees-agrees.ensures.agree, c.const_sort.ensures.sort, c.const_place.ensures.place)
    (each-step (λ (k : Case). at_key c.args.sort k.key) c.args.cases.now c.loop-case.case-index c.case-item.result c.loop-case-test.true c.case-item.is)

pub returns : goal.returns
returns c = record { told = c.loop-case.invariant ∙ keys-end c.args.sort c.args.cases.now c.loop-case.case-index c.loop-case-test.false }
