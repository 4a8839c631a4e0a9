use Rattle.std.proofs.Common.{◌≡◌, ◌≤◌, ◌++◌, drop, length, map, reverse}
use Rattle.pads_plan.specs.Expansion.{caller, parts_below}
use Rattle.pads_plan.specs.Pending.{named_of, pending}
use Rattle.pads_plan.proofs.listing.push_parts.Given as goal

-- what stands there already, then what was put there so far
abbrev pub invariant-parts : goal.invariant-parts
invariant-parts l =
    let decls = l.terms.decls.now in
    let names = l.terms.names.now in
    (l.k ≤ length l.parts)
    × (pending decls names l.stack.items ≡ pending decls names l.fn.stack.items
    ++ reverse (parts_below names l.above.way.now l.above.step l.above.place.now l.above.number l.k (drop l.k (map (named_of names (caller names decls l.above.left)) l.parts))))

abbrev pub decreases-parts : goal.decreases-parts
decreases-parts l = l.k
