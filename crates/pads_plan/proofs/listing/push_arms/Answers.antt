use Rattle.std.proofs.Common.{◌-◌, arith}
use Rattle.pads_plan.specs.Expansion.{caller}
use Rattle.pads_plan.specs.Pending.{branch_of, pending}
use Rattle.pads_plan.proofs.Pushes.{branch_put}
use Rattle.pads_plan.proofs.listing.push_arms.Goals as goal

pub arms-preserved : goal.arms-preserved
arms-preserved c =
    let decls = c.args.terms.now.decls.now in
    let names = c.args.terms.now.names.now in
    let above = c.args.above.now in (
      omega (arith, c.arms.invariant.0),
      branch_put names above.way.now above.step above.place.now above.number (branch_of names (caller names decls above.left)) c.args.arms.now
          (c.arms.k - 1) c.arms.k c.index-arms-k.result (pending decls names c.args.stack.now.items) (pending decls names c.arms.stack.items) (pending decls names c.push_branch.new.stack.items)
          (omega (arith, c.arms-test.true)) (omega (arith, c.arms.invariant.0, c.arms-test.true)) c.index-arms-k.is c.arms.invariant.1 c.in_ok-push_branch.ensures.pushed,
    )
