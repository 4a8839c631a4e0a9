use Rattle.pads_ast.specs.declared.decl.Case.{Case}
use Rattle.pads_ast.specs.NameTokens.{names_in_branch}
use Rattle.pads_counts.proofs.MetLaws.{one-more}
use Rattle.pads_counts.proofs.in_decl.meet_cases.Goals as goal

pub loop-case-preserved : goal.loop-case-preserved
loop-case-preserved c =
    one-more (λ (case : Case). names_in_branch case.branch) c.args.cases.now c.loop-case.case-index c.case-item.result _ _ _ c.loop-case-test.true c.case-item.is c.loop-case.invariant
    c.in_ok-meet_branch.ensures.met
