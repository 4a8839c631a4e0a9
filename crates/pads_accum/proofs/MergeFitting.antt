-- Whether the counts of sums and later ones stay within a bound, and what merging makes of the bounds.
use Rattle.std.specs.Cmp.Derive.{both_true}
use Rattle.std.proofs.Common.{◌≡◌, ◌∙◌, ap, refl, ℕ, ◌+◌, ◌≤◌, nat_le, nat_lt, Bool, true, List, [], ◌∷◌, length, Option, Some, None, le-leb, leb-true, arith}
use Rattle.pads_sums.proofs.Lists.{both}
use Rattle.pads_sums.specs.Merging.{merged}
use Rattle.pads_sums.specs.declared.part_sum.PartSum.{PartSum}
use Rattle.pads_sums.specs.declared.part_sum.SumList.{SumList}
use Rattle.pads_accum.specs.Feeding.{lists_within, part_within, parts_within}
use Rattle.pads_accum.specs.Limits.{merging_over, most, or_else, over, sums_over}
use Rattle.pads_accum.specs.Merging.{each_with, list_merged, lists_fit, lists_merged, parts_merged, sum_fits, sums_fit}
use Rattle.pads_accum.proofs.Fitting.{none_over, or_none, over_none}

-- where no count would pass 2^62, all fit it
pub sums_fit_none : (number : ℕ) (sums more : List PartSum) → sums_over number sums more ≡ None → sums_fit most sums more ≡ true
sums_fit_none number [] more none = refl
sums_fit_none number (sum ∷ sums) [] none = refl
sums_fit_none number (sum ∷ sums) (later ∷ more) none =
    let h = or_none (or_else (over number sum.good later.good) (over number sum.bad later.bad)) (sums_over (number + 1) sums more) none in
    let counts = or_none (over number sum.good later.good) (over number sum.bad later.bad) h.0 in
    both_true (both_true (over_none number sum.good later.good counts.0) (over_none number sum.bad later.bad counts.1)) (sums_fit_none (number + 1) sums more h.1)

pub lists_fit_none : (before : ℕ) (lists more : List SumList) → merging_over before lists more ≡ None → lists_fit most lists more ≡ true
lists_fit_none before [] more none = refl
lists_fit_none before (list ∷ lists) [] none = refl
lists_fit_none before (list ∷ lists) (later ∷ more) none =
    let h = or_none (sums_over before list.parts later.parts) (merging_over (before + length list.parts) lists more) none in
    both_true (sums_fit_none before list.parts later.parts h.0) (lists_fit_none (before + length list.parts) lists more h.1)

-- and where all fit it, none would pass
module _ (bound : ℕ) (small : bound ≤ most) where
  sums-none : (number : ℕ) (sums more : List PartSum) → sums_fit bound sums more ≡ true → sums_over number sums more ≡ None
  sums-none number [] more fits = refl
  sums-none number (sum ∷ sums) [] fits = refl
  sums-none number (sum ∷ sums) (later ∷ more) fits =
      let h = both _ _ fits in
      let counts = both _ _ h.0 in
      rw (none_over bound small number sum.good later.good counts.0, none_over bound small number sum.bad later.bad counts.1) (sums-none (number + 1) sums more h.1)

  pub lists_none : (before : ℕ) (lists more : List SumList) → lists_fit bound lists more ≡ true → merging_over before lists more ≡ None
  lists_none before [] more fits = refl
  lists_none before (list ∷ lists) [] fits = refl
  lists_none before (list ∷ lists) (later ∷ more) fits =
      let h = both _ _ fits in
      rw (sums-none before list.parts later.parts h.0) (lists_none (before + length list.parts) lists more h.1)

-- the sum of two bounds
module _ (a b : ℕ) where
  count-grown : (n m : ℕ) → nat_le n a ≡ true → nat_le m b ≡ true → nat_le (n + m) (a + b) ≡ true
  count-grown n m first second = let x = leb-true n a first in let y = leb-true m b second in le-leb (n + m) (a + b) (omega (arith, x, y))

  sums-grown : (sums more : List PartSum) → parts_within a sums ≡ true → parts_within b more ≡ true → sums_fit (a + b) sums more ≡ true
  sums-grown [] more first second = refl
  sums-grown (sum ∷ sums) [] first second = refl
  sums-grown (sum ∷ sums) (later ∷ more) first second =
      let h = both (part_within a sum) (parts_within a sums) first in
      let k = both (part_within b later) (parts_within b more) second in
      let counts = both (nat_le sum.good a) (nat_le sum.bad a) h.0 in
      let others = both (nat_le later.good b) (nat_le later.bad b) k.0 in
      both_true (both_true (count-grown sum.good later.good counts.0 others.0) (count-grown sum.bad later.bad counts.1 others.1)) (sums-grown sums more h.1 k.1)

  pub fit_grown : (lists more : List SumList) → lists_within a lists ≡ true → lists_within b more ≡ true → lists_fit (a + b) lists more ≡ true
  fit_grown [] more first second = refl
  fit_grown (list ∷ lists) [] first second = refl
  fit_grown (list ∷ lists) (later ∷ more) first second =
      let h = both (parts_within a list.parts) (lists_within a lists) first in
      let k = both (parts_within b later.parts) (lists_within b more) second in
      both_true (sums-grown list.parts later.parts h.0 k.0) (fit_grown lists more h.1 k.1)

-- what is merged is within the bound that both fit
module _ (room : Option ℕ) (bound : ℕ) where
  sum-within : (sum later : PartSum) → sum_fits bound sum later ≡ true → part_within bound (merged room sum later) ≡ true
  sum-within sum later fits =
      let h = both (nat_le (sum.good + later.good) bound) (nat_le (sum.bad + later.bad) bound) fits in
      let good = leb-true (sum.good + later.good) bound h.0 in
      let bad = leb-true (sum.bad + later.bad) bound h.1 in
      both_true (le-leb (merged room sum later).good bound (omega (arith, good))) (le-leb (merged room sum later).bad bound (omega (arith, bad)))

  sums-within : (sums more : List PartSum) → parts_within bound sums ≡ true → sums_fit bound sums more ≡ true → parts_within bound (parts_merged room sums more) ≡ true
  sums-within [] more within fits = refl
  sums-within (sum ∷ sums) [] within fits = within
  sums-within (sum ∷ sums) (later ∷ more) within fits =
      let h = both (part_within bound sum) (parts_within bound sums) within in
      let k = both (sum_fits bound sum later) (sums_fit bound sums more) fits in
      both_true (sum-within sum later k.0) (sums-within sums more h.1 k.1)

  pub merged_within : (lists more : List SumList) → lists_within bound lists ≡ true → lists_fit bound lists more ≡ true → lists_within bound (lists_merged room lists more) ≡ true
  merged_within [] more within fits = refl
  merged_within (list ∷ lists) [] within fits = within
  merged_within (list ∷ lists) (later ∷ more) within fits =
      let h = both (parts_within bound list.parts) (lists_within bound lists) within in
      let k = both (sums_fit bound list.parts later.parts) (lists_fit bound lists more) fits in
      both_true (sums-within list.parts later.parts h.0 k.0) (merged_within lists more h.1 k.1)
