use Rattle.std.proofs.Common.{◌≡◌, ◌≤◌, ◌-◌, length, reverse}
use Rattle.pads_plan.specs.Pending.{pending, whole}
use Rattle.pads_plan.proofs.plan.list_pending.Given as goal

-- what is listed, and what is still to be listed
abbrev pub invariant-parts : goal.invariant-parts
invariant-parts l =
    let decls = l.terms.decls.now in
    let names = l.terms.names.now in
    (whole l.parts (reverse (pending decls names l.stack.items)) ≡ whole l.fn.parts (reverse (pending decls names l.fn.stack.items)))
    × (length l.parts ≤ l.room)

abbrev pub decreases-parts : goal.decreases-parts
decreases-parts l = l.room - length l.parts
