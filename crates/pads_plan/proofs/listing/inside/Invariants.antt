use Rattle.std.proofs.Common.{◌≡◌, ℕ, List}
use Rattle.pads_plan.specs.Expansion.{Listed, expand}
use Rattle.pads_plan.proofs.listing.inside.Given as goal

-- each term stands for the same parts as the one around it
abbrev pub invariant-inside : goal.invariant-inside
invariant-inside l = (names : List (List ℕ)) (call : ℕ → Listed) → (expand names call l.fn.outer).listed ≡ (expand names call l.term).listed
