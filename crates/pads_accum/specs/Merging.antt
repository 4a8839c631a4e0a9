-- Sums with later ones of the same parts, part by part, and whether their counts fit; for private clauses.
use Rattle.std.specs.Prelude.{ℕ, ◌+◌, nat_le, Bool, true, ◌&&◌, List, [], ◌∷◌, Option, Some, None, slice_get, slice_set}
use Rattle.pads_sums.specs.Merging.{merged}
use Rattle.pads_sums.specs.declared.part_sum.PartSum.{PartSum}
use Rattle.pads_sums.specs.declared.part_sum.SumList.{SumList}

-- each item with the later one at its place, where there is one
module _ {X : Type 0} (f : X → X → X) where
  abbrev pub each_with : List X → List X → List X
  each_with [] more = []
  each_with (x ∷ xs) [] = x ∷ xs
  each_with (x ∷ xs) (later ∷ more) = f x later ∷ each_with xs more

  abbrev pub put_with : Option X → List X → ℕ → X → List X
  put_with None xs at later = xs
  put_with (Some x) xs at later = slice_set xs at (f x later)

  -- one item alone
  abbrev pub one_with : List X → ℕ → X → List X
  one_with xs at later = put_with (slice_get xs at) xs at later

module _ (room : Option ℕ) where
  abbrev pub parts_merged : List PartSum → List PartSum → List PartSum
  parts_merged sums more = each_with (merged room) sums more

  abbrev pub list_merged : SumList → SumList → SumList
  list_merged list later = record list { parts = parts_merged list.parts later.parts }

  abbrev pub lists_merged : List SumList → List SumList → List SumList
  lists_merged lists more = each_with list_merged lists more

-- whether no count of both passes a bound
module _ (bound : ℕ) where
  abbrev pub sum_fits : PartSum → PartSum → Bool
  sum_fits sum later = nat_le (sum.good + later.good) bound && nat_le (sum.bad + later.bad) bound

  abbrev pub sums_fit : List PartSum → List PartSum → Bool
  sums_fit [] more = true
  sums_fit (sum ∷ sums) [] = true
  sums_fit (sum ∷ sums) (later ∷ more) = sum_fits sum later && sums_fit sums more

  abbrev pub lists_fit : List SumList → List SumList → Bool
  lists_fit [] more = true
  lists_fit (list ∷ lists) [] = true
  lists_fit (list ∷ lists) (later ∷ more) = sums_fit list.parts later.parts && lists_fit lists more
