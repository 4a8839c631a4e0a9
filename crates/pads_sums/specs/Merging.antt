-- What is kept of two lists of nodes one after the other, from what is kept of each. The later sum tracks
-- all its values, so each of them is counted with all its occurrences at once.
use Rattle.std.specs.Prelude.{ℕ, ℤ, ◌+ℤ◌, nat_eq, Option, fold, if◌then◌else◌}
use Rattle.std.specs.Int.{int_min, int_max, saturate_signed, w128}
use Rattle.pads_sums.specs.Adding.{Pairs, counted_by, is_counted, risen}
use Rattle.pads_sums.specs.Samples.{Sample}
use Rattle.pads_sums.specs.declared.part_sum.PartSum.{PartSum}

-- tracked values, and how many samples have other values
abbrev pub Held : Type 0
Held = Pairs × ℕ

module _ (room : Option ℕ) where
  -- one value with its occurrences: those of a value that isn't tracked then count among the others
  abbrev pub one_joined : Held → Sample × ℕ → Held
  one_joined held pair =
      (counted_by room pair.1 pair.0 held.0, if is_counted room pair.0 held.0 then held.1 else risen pair.1 held.1)

  -- the later values in their order
  abbrev pub joined : Held → Pairs → Held
  joined held later = fold one_joined held later

-- the outermost of two lists of numbers, of which there are so many: that of the other where one has none
abbrev pub outermost : (ℤ → ℤ → ℤ) → ℕ → ℤ → ℕ → ℤ → ℤ
outermost f count number more later = if nat_eq more 0 then number else if nat_eq count 0 then later else f number later

-- the counts and the numbers of both
abbrev pub with_counts : PartSum → PartSum → PartSum
with_counts later sum = record sum {
  good = risen later.good sum.good;
  bad = risen later.bad sum.bad;
  nums = risen later.nums sum.nums;
  least = outermost int_min sum.nums sum.least later.nums later.least;
  greatest = outermost int_max sum.nums sum.greatest later.nums later.greatest;
  sum = saturate_signed w128 (sum.sum +ℤ later.sum);
}

abbrev pub merged : Option ℕ → PartSum → PartSum → PartSum
merged room sum later =
    let held = joined room (sum.tracked, sum.others) later.tracked in
    record (with_counts later sum) { tracked = held.0; others = risen later.others held.1 }
