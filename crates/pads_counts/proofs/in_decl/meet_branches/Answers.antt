use Rattle.pads_ast.specs.NameTokens.{names_in_branch}
use Rattle.pads_counts.proofs.MetLaws.{one-more}
use Rattle.pads_counts.proofs.in_decl.meet_branches.Goals as goal

pub loop-branch-preserved : goal.loop-branch-preserved
loop-branch-preserved c = one-more names_in_branch c.args.branches.now c.loop-branch.branch-index c.branch-item.result _ _ _ c.loop-branch-test.true c.branch-item.is c.loop-branch.invariant c.in_ok-meet_branch.ensures.met
