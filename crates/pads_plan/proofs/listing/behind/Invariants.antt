use Rattle.std.proofs.Common.{◌≡◌, false}
use Rattle.pads_calc.specs.declared.term.Term.{out-Term}
use Rattle.pads_plan.specs.Pending.{parts_at, is_passed}
use Rattle.pads_plan.proofs.listing.behind.Given as goal

-- each term stands for the same parts as the one before, and none is passed through but calls
abbrev pub invariant-calls : goal.invariant-calls
invariant-calls l =
    (parts_at l.terms.decls.now l.terms.names.now l.fn.left l.fn.outer l.fn.way ≡ parts_at l.terms.decls.now l.terms.names.now l.left l.term l.way)
    × (is_passed (out-Term l.term) ≡ false)

-- so many declarations can still come to stand on the way
abbrev pub decreases-calls : goal.decreases-calls
decreases-calls l = l.left
