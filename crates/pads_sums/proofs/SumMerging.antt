-- What is kept of the nodes of a part and of later ones is what is kept of all of them, as long as counts
-- are within 2^62. Where nothing is left out, what is kept is that of all values.
use Rattle.std.proofs.Common.{◌≡◌, ◌∙◌, sym, ap, ℕ, ◌+◌, ◌^◌, ◌≤◌, Bool, true, not, List, ◌++◌, length, Option, None, arith}
use Rattle.std.specs.Int.{int_min, int_max}
use Rattle.std.specs.List.{count_by, list_all}
use Rattle.std.proofs.lemmas.List.{length-append}
use Rattle.std.proofs.lemmas.List.Elements.{filter_map-append}
use Rattle.pads_sums.specs.Adding.{risen}
use Rattle.pads_sums.specs.Distinct.{others, tracked}
use Rattle.pads_sums.specs.Merging.{Held, joined, merged}
use Rattle.pads_sums.specs.Nodes.{Node, sample_of}
use Rattle.pads_sums.specs.Samples.{Sample}
use Rattle.pads_sums.specs.Sums.{kept, number_in, numbers, over_all, part_sum, samples_of, total}
use Rattle.pads_sums.specs.declared.form.PartForm.{PartForm}
use Rattle.pads_sums.proofs.Lists.{count_append}
use Rattle.pads_sums.proofs.MergingLaws.{joined_lists}
use Rattle.pads_sums.proofs.NumberMerging.{max_assoc, min_assoc, over_all_append, sums_fit, total_append}
use Rattle.pads_sums.proofs.OtherLaws.{others_all, others_few, same_all}
use Rattle.pads_sums.proofs.SampleKinds.{numbers_ranged, samples_suit}
use Rattle.pads_sums.proofs.SuitLaws.{is_numeric, suits}
use Rattle.pads_sums.proofs.SumLaws.{numbers_few, samples_few}

module _ (room : Option ℕ) (place : List ℕ) (good more_good bad more_bad : ℕ) (numeric : Bool) (xs ys : List Sample)
    (all : list_all (suits numeric) xs ≡ true) (each : list_all (suits numeric) ys ≡ true)
    (few_good : good + more_good ≤ 2 ^ 62) (few_bad : bad + more_bad ≤ 2 ^ 62) (few : length xs + length ys ≤ 2 ^ 62) where
  numbers-both : numbers (xs ++ ys) ≡ numbers xs ++ numbers ys
  numbers-both = filter_map-append number_in xs ys

  few-numbers : length (numbers xs) + length (numbers ys) ≤ 2 ^ 62
  few-numbers = let first = numbers_few xs in let second = numbers_few ys in omega (arith, few, first, second)

  good-both : good + more_good ≡ risen more_good good
  good-both = omega (arith, few_good)

  bad-both : bad + more_bad ≡ risen more_bad bad
  bad-both = omega (arith, few_bad)

  nums-both : length (numbers (xs ++ ys)) ≡ risen (length (numbers ys)) (length (numbers xs))
  nums-both = let longer = ap length numbers-both ∙ length-append (numbers xs) (numbers ys) in let fewer = few-numbers in omega (arith, longer, fewer)

  values-both : (tracked room (xs ++ ys), others room (xs ++ ys)) ≡ joined room (tracked room xs, others room xs) (tracked None ys)
  values-both = sym (joined_lists room numeric xs ys (omega (arith, few)) all each)

  -- none of the later samples is among the others there
  others-both : others room (xs ++ ys) ≡ risen (others None ys) (joined room (tracked room xs, others room xs) (tracked None ys)).1
  others-both =
      let outside = ap (λ (held : Held). held.1) values-both in
      let nothing = others_all ys in
      let fewer = others_few room (xs ++ ys) in
      let lengths = length-append xs ys in
      omega (arith, outside, nothing, fewer, lengths, few)

  pub kept_merged : kept room place (good + more_good) (bad + more_bad) (xs ++ ys)
      ≡ merged room (kept room place good bad xs) (kept None place more_good more_bad ys)
  kept_merged = (λ i. record {
    place = place;
    good = good-both i;
    bad = bad-both i;
    nums = nums-both i;
    least = (ap (over_all int_min) numbers-both ∙ over_all_append int_min min_assoc (numbers xs) (numbers ys)) i;
    greatest = (ap (over_all int_max) numbers-both ∙ over_all_append int_max max_assoc (numbers xs) (numbers ys)) i;
    sum = (ap total numbers-both ∙ total_append (numbers xs) (numbers ys)
        ∙ sym (sums_fit (numbers xs) (numbers ys) few-numbers (numbers_ranged numeric xs all) (numbers_ranged numeric ys each))) i;
    tracked = (values-both i).0;
    others = others-both i;
  })

-- The sum of nodes and of later ones, merged, is the sum of all.
pub part_sum_merged : (room : Option ℕ) (place : List ℕ) (form : PartForm) (nodes more : List Node)
    → count_by (λ node. node.clean) nodes + count_by (λ node. node.clean) more ≤ 2 ^ 62
    → count_by (λ node. not node.clean) nodes + count_by (λ node. not node.clean) more ≤ 2 ^ 62
    → part_sum room place form (nodes ++ more) ≡ merged room (part_sum room place form nodes) (part_sum None place form more)
part_sum_merged room place form nodes more few_good few_bad =
    let first = samples_few form nodes in
    let second = samples_few form more in
    (λ i. kept room place (count_append (λ node. node.clean) nodes more i) (count_append (λ node. not node.clean) nodes more i) (filter_map-append (sample_of form) nodes more i))
    ∙ kept_merged room place (count_by (λ node. node.clean) nodes) (count_by (λ node. node.clean) more) (count_by (λ node. not node.clean) nodes) (count_by (λ node. not node.clean) more)
    (is_numeric form) (samples_of form nodes) (samples_of form more) (samples_suit form nodes) (samples_suit form more)
    few_good few_bad (omega (arith, first, second, few_good))

-- Where no samples are left out, the sum tracks all values.
pub part_sum_whole : (room : Option ℕ) (place : List ℕ) (form : PartForm) (nodes : List Node) → (part_sum room place form nodes).others ≡ 0
    → part_sum room place form nodes ≡ part_sum None place form nodes
part_sum_whole room place form nodes none =
    let same = same_all room (samples_of form nodes) none in
    (λ i. record (part_sum room place form nodes) { tracked = (same i).0; others = (same i).1 })
