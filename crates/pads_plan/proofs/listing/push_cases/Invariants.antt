use Rattle.std.proofs.Common.{◌≡◌, ◌≤◌, ◌++◌, drop, length, map, reverse}
use Rattle.pads_plan.specs.Expansion.{caller, branches_below}
use Rattle.pads_plan.specs.Pending.{branch_of_case, pending}
use Rattle.pads_plan.proofs.listing.push_cases.Given as goal

-- what stands there already, then what was put there so far
abbrev pub invariant-cases : goal.invariant-cases
invariant-cases l =
    let decls = l.terms.decls.now in
    let names = l.terms.names.now in
    (l.k ≤ length l.cases)
    × (pending decls names l.stack.items ≡ pending decls names l.fn.stack.items
    ++ reverse (branches_below names l.above.way.now l.above.step l.above.place.now l.above.number l.k (drop l.k (map (branch_of_case names (caller names decls l.above.left)) l.cases))))

abbrev pub decreases-cases : goal.decreases-cases
decreases-cases l = l.k
