use Rattle.std.proofs.Common.{◌≡◌, ◌≤◌, ◌++◌, drop, length, map, reverse}
use Rattle.pads_plan.specs.Expansion.{caller, branches_below}
use Rattle.pads_plan.specs.Pending.{branch_of, pending}
use Rattle.pads_plan.proofs.listing.push_arms.Given as goal

-- what stands there already, then what was put there so far
abbrev pub invariant-arms : goal.invariant-arms
invariant-arms l =
    let decls = l.terms.decls.now in
    let names = l.terms.names.now in
    (l.k ≤ length l.arms)
    × (pending decls names l.stack.items ≡ pending decls names l.fn.stack.items
    ++ reverse (branches_below names l.above.way.now l.above.step l.above.place.now l.above.number l.k (drop l.k (map (branch_of names (caller names decls l.above.left)) l.arms))))

abbrev pub decreases-arms : goal.decreases-arms
decreases-arms l = l.k
