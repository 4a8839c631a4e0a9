-- Whether counts stay within a bound.
use Rattle.std.specs.Cmp.Derive.{both_true}
use Rattle.pads_sums.proofs.Lists.{both}
use Rattle.std.proofs.Common.{◌≡◌, ap, refl, ℕ, ◌+◌, ◌≤◌, nat_le, nat_lt, nat_eq, Bool, true, false, true≢false, not, List, [], ◌∷◌, length, Option, Some, None, is_some, le-leb, leb-true, le-ltb, ltb-false, arith}
use Rattle.std.specs.List.{count_by, filter}
use Rattle.std.proofs.lemmas.List.Sums.{count_by-le-length, length-filter}
use Rattle.std.proofs.lemmas.List.{length-map}
use Rattle.pads_sums.specs.Nodes.{Node}
use Rattle.pads_sums.specs.declared.part_sum.PartSum.{PartSum}
use Rattle.pads_accum.specs.Feeding.{fits_from, part_within, parts_within, placed_over}
use Rattle.pads_accum.specs.Limits.{most, or_else, over, part_over}
use Rattle.pads_accum.specs.Placed.{Placed}
use Rattle.pads_accum.specs.Summaries.{picked}
use Rattle.pads_accum.specs.declared.limit.Limit.{Limit}

-- no more nodes of a part than nodes
picked_few : (test : Node → Bool) (at : ℕ) (placed : List Placed) → count_by test (picked at placed) ≤ length placed
picked_few test at placed =
    let few = count_by-le-length test (picked at placed) in
    let same = length-map (filter (λ p. nat_eq p.part at) placed) (λ (p : Placed). p.node) in
    let filtered = length-filter (λ p. nat_eq p.part at) placed in
    let fewer = count_by-le-length (λ (p : Placed). nat_eq p.part at) placed in
    omega (arith, few, same, filtered, fewer)

-- a bound that grows by the number of nodes
module _ (bound : ℕ) (placed : List Placed) where
  grows-step : (test : Node → Bool) (at count : ℕ) → nat_le count bound ≡ true → nat_le (count + count_by test (picked at placed)) (bound + length placed) ≡ true
  grows-step test at count within =
      let few = picked_few test at placed in
      let below = leb-true count bound within in
      le-leb (count + count_by test (picked at placed)) (bound + length placed) (omega (arith, few, below))

  pub fits_grown : (at : ℕ) (sums : List PartSum) → parts_within bound sums ≡ true → fits_from (bound + length placed) at sums placed ≡ true
  fits_grown at [] within = refl
  fits_grown at (sum ∷ sums) within =
      let h = both (part_within bound sum) (parts_within bound sums) within in
      let counts = both (nat_le sum.good bound) (nat_le sum.bad bound) h.0 in
      both_true (both_true (grows-step (λ node. node.clean) at sum.good counts.0) (grows-step (λ node. not node.clean) at sum.bad counts.1))
      (fits_grown (at + 1) sums h.1)

-- where no count would pass 2^62, all fit it
pub or_none : (a b : Option Limit) → or_else a b ≡ None → (a ≡ None) × (b ≡ None)
or_none None b h = (refl, h)
or_none (Some x) b h = absurd (true≢false (ap is_some h))

over-step : (part count more : ℕ) (b : Bool) → nat_lt most (count + more) ≡ b → over part count more ≡ None → nat_le (count + more) most ≡ true
over-step part count more true is none = absurd (true≢false (ap is_some (rw is at none)))
over-step part count more false is none = le-leb (count + more) most (ltb-false most (count + more) is)

pub over_none : (part count more : ℕ) → over part count more ≡ None → nat_le (count + more) most ≡ true
over_none part count more none = over-step part count more (nat_lt most (count + more)) refl none

pub fits_none : (before at : ℕ) (sums : List PartSum) (placed : List Placed) → placed_over before at sums placed ≡ None → fits_from most at sums placed ≡ true
fits_none before at [] placed none = refl
fits_none before at (sum ∷ sums) placed none =
    let h = or_none (part_over (before + at) sum (picked at placed)) (placed_over before (at + 1) sums placed) none in
    let counts = or_none (over (before + at) sum.good (count_by (λ node. node.clean) (picked at placed))) (over (before + at) sum.bad (count_by (λ node. not node.clean) (picked at placed))) h.0 in
    both_true (both_true (over_none (before + at) sum.good _ counts.0) (over_none (before + at) sum.bad _ counts.1)) (fits_none before (at + 1) sums placed h.1)

-- and where all fit it, no count would pass
module _ (bound : ℕ) (small : bound ≤ most) where
  pub none_over : (part count more : ℕ) → nat_le (count + more) bound ≡ true → over part count more ≡ None
  none_over part count more fits =
      let h = leb-true (count + more) bound fits in
      rw (le-ltb most (count + more) (omega (arith, h, small))) refl

  pub none_fits : (before at : ℕ) (sums : List PartSum) (placed : List Placed) → fits_from bound at sums placed ≡ true → placed_over before at sums placed ≡ None
  none_fits before at [] placed fits = refl
  none_fits before at (sum ∷ sums) placed fits =
      let h = both _ _ fits in
      let counts = both _ _ h.0 in
      rw (
        none_over (before + at) sum.good (count_by (λ node. node.clean) (picked at placed)) counts.0,
        none_over (before + at) sum.bad (count_by (λ node. not node.clean) (picked at placed)) counts.1,
      )
      (none_fits before (at + 1) sums placed h.1)
