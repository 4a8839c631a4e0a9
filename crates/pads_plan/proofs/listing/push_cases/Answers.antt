use Rattle.std.proofs.Common.{◌-◌, ap, get_or, arith}
use Rattle.pads_plan.specs.Expansion.{caller}
use Rattle.pads_plan.specs.Pending.{branch_of_case, pending}
use Rattle.pads_plan.proofs.Pushes.{branch_put}
use Rattle.pads_plan.proofs.listing.push_cases.Goals as goal

pub cases-preserved : goal.cases-preserved
cases-preserved c =
    let decls = c.args.terms.now.decls.now in
    let names = c.args.terms.now.names.now in
    let above = c.args.above.now in (
      omega (arith, c.cases.invariant.0),
      branch_put names above.way.now above.step above.place.now above.number (branch_of_case names (caller names decls above.left)) c.args.cases.now
          (c.cases.k - 1) c.cases.k (get_or c.args.cases.now (c.cases.k - 1) c.index-cases-k.result) (pending decls names c.args.stack.now.items) (pending decls names c.cases.stack.items) (pending decls names c.push_branch.new.stack.items)
          (omega (arith, c.cases-test.true)) (omega (arith, c.cases.invariant.0, c.cases-test.true)) (ap (get_or c.args.cases.now (c.cases.k - 1)) c.index-cases-k.is) c.cases.invariant.1 c.in_ok-push_branch.ensures.pushed,
    )
