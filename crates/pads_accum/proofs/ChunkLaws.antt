-- Sums of rows merged with those of later rows are the sums of all of them; whether a count passes is
-- settled by all rows; sums that leave nothing out track all values.
use Rattle.std.specs.Cmp.Derive.{both_true}
use Rattle.std.proofs.Common.{◌≡◌, ◌∙◌, sym, ap, refl, ℕ, ◌+◌, ◌≤◌, ◌↔◌, nat_le, nat_eq, nat_lt, Bool, true, false, true≢false, not, ◌&&◌, ◌||◌, List, [], ◌∷◌, ◌++◌, length, Option, Some, None, leb-true, ltb-false, arith}
use Rattle.std.specs.List.{count_by, list_any}
use Rattle.std.proofs.lemmas.List.Elements.{filter-append}
use Rattle.pads_value.specs.declared.row.Row.{Row}
use Rattle.pads_plan.specs.declared.part.PlanList.{PlanList}
use Rattle.pads_plan.specs.declared.part.PlanPart.{PlanPart}
use Rattle.pads_sums.proofs.Lists.{both, count_append}
use Rattle.pads_sums.proofs.SumMerging.{part_sum_merged, part_sum_whole}
use Rattle.pads_sums.specs.Merging.{merged}
use Rattle.pads_sums.specs.Nodes.{Node}
use Rattle.pads_sums.specs.Sums.{part_sum, most as tracked_most}
use Rattle.pads_sums.specs.declared.part_sum.PartSum.{PartSum}
use Rattle.pads_sums.specs.declared.part_sum.SumList.{SumList}
use Rattle.pads_accum.specs.Feeding.{lists_within, parts_within}
use Rattle.pads_accum.specs.Limits.{merge_limit, most, passes}
use Rattle.pads_accum.specs.Merging.{list_merged, lists_fit, lists_merged, parts_merged, sums_fit}
use Rattle.pads_accum.specs.States.{has_others}
use Rattle.pads_accum.specs.Summaries.{all_of, fed, list_summed, lists_summed, nodes_of, parts_summed, rows_of, summary_of, summed}
use Rattle.pads_accum.proofs.MergeFitting.{lists_fit_none, lists_none}
use Rattle.pads_accum.proofs.Passing.{nodes_more, none_passes, passes_is, within_unless}

pub rows_more : (count at : ℕ) (rows more : List Row) → rows_of count at (rows ++ more) ≡ rows_of count at rows ++ rows_of count at more
rows_more count at rows more = filter-append (λ (r : Row). nat_eq (fed count r.number) at) rows more

-- the parts of one list
module _ (all : List PlanPart) (rows more : List Row) where
  count-is : (test : Node → Bool) (at : ℕ)
      → count_by test (nodes_of all at rows) + count_by test (nodes_of all at more) ≡ count_by test (nodes_of all at (rows ++ more))
  count-is test at = sym (ap (count_by test) (nodes_more None rows more all at) ∙ count_append test (nodes_of all at rows) (nodes_of all at more))

  pub parts_fit_is : (first second both : Option ℕ) (at : ℕ) (parts : List PlanPart)
      → sums_fit most (parts_summed first all rows at parts) (parts_summed second all more at parts) ≡ parts_within most (parts_summed both all (rows ++ more) at parts)
  parts_fit_is first second both at [] = refl
  parts_fit_is first second both at (part ∷ parts) =
      (λ i. (nat_le (count-is (λ node. node.clean) at i) most && nat_le (count-is (λ node. not node.clean) at i) most) && parts_fit_is first second both (at + 1) parts i)

  part-both : (room : Option ℕ) (at : ℕ) (part : PlanPart)
      → (nat_le (count_by (λ node. node.clean) (nodes_of all at rows) + count_by (λ node. node.clean) (nodes_of all at more)) most
      && nat_le (count_by (λ node. not node.clean) (nodes_of all at rows) + count_by (λ node. not node.clean) (nodes_of all at more)) most) ≡ true
      → ◌≡◌ {A = PartSum} (merged room (part_sum room part.place part.form (nodes_of all at rows)) (part_sum None part.place part.form (nodes_of all at more)))
      (part_sum room part.place part.form (nodes_of all at (rows ++ more)))
  part-both room at part fits =
      let counts = both _ _ fits in
      sym (part_sum_merged room part.place part.form (nodes_of all at rows) (nodes_of all at more) (leb-true _ most counts.0) (leb-true _ most counts.1))
      ∙ ap (part_sum room part.place part.form) (sym (nodes_more None rows more all at))

  pub parts_both : (room : Option ℕ) (at : ℕ) (parts : List PlanPart)
      → sums_fit most (parts_summed room all rows at parts) (parts_summed None all more at parts) ≡ true
      → parts_merged room (parts_summed room all rows at parts) (parts_summed None all more at parts) ≡ parts_summed room all (rows ++ more) at parts
  parts_both room at [] fits = refl
  parts_both room at (part ∷ parts) fits =
      let h = both _ _ fits in
      (λ i. part-both room at part h.0 i ∷ parts_both room (at + 1) parts h.1 i)

-- all lists
module _ (count : ℕ) (rows more : List Row) where
  lists-fit-is : (first second both : Option ℕ) (at : ℕ) (plans : List PlanList)
      → lists_fit most (lists_summed first count at plans rows) (lists_summed second count at plans more) ≡ lists_within most (lists_summed both count at plans (rows ++ more))
  lists-fit-is first second both at [] = refl
  lists-fit-is first second both at (plan ∷ plans) =
      (λ i. (parts_fit_is plan.parts (rows_of count at rows) (rows_of count at more) first second both 0 plan.parts
      ∙ ap (λ rs. parts_within most (parts_summed both plan.parts rs 0 plan.parts)) (sym (rows_more count at rows more))) i
      && lists-fit-is first second both (at + 1) plans i)

  list-both : (room : Option ℕ) (at : ℕ) (plan : PlanList)
      → sums_fit most (list_summed room plan (rows_of count at rows)).parts (list_summed None plan (rows_of count at more)).parts ≡ true
      → list_merged room (list_summed room plan (rows_of count at rows)) (list_summed None plan (rows_of count at more)) ≡ list_summed room plan (rows_of count at (rows ++ more))
  list-both room at plan fits =
      (λ i. record { name = plan.name; parts = parts_both plan.parts (rows_of count at rows) (rows_of count at more) room 0 plan.parts fits i })
      ∙ ap (list_summed room plan) (sym (rows_more count at rows more))

  lists-both : (room : Option ℕ) (at : ℕ) (plans : List PlanList)
      → lists_fit most (lists_summed room count at plans rows) (lists_summed None count at plans more) ≡ true
      → lists_merged room (lists_summed room count at plans rows) (lists_summed None count at plans more) ≡ lists_summed room count at plans (rows ++ more)
  lists-both room at [] fits = refl
  lists-both room at (plan ∷ plans) fits =
      let h = both _ _ fits in
      (λ i. list-both room at plan h.0 i ∷ lists-both room (at + 1) plans h.1 i)

-- The sums of rows, merged with those of later rows, are the sums of all of them, where no count would pass.
pub summed_both : (room : Option ℕ) (plan : List PlanList) (rows more : List Row) → merge_limit (summed room plan rows) (summed None plan more) ≡ None
    → lists_merged room (summed room plan rows) (summed None plan more) ≡ summed room plan (rows ++ more)
summed_both room plan rows more none =
    lists-both (length plan) rows more room 0 plan (lists_fit_none 0 (summed room plan rows) (summed None plan more) none)

-- the same of what the code has
pub rows_merged : (room : Option ℕ) (plan : List PlanList) (lists later new : List SumList) (rows more : List Row) → merge_limit lists later ≡ None
    → new ≡ lists_merged room lists later → lists ≡ summed room plan rows → later ≡ summed None plan more → new ≡ summed room plan (rows ++ more)
rows_merged room plan lists later new rows more none is were came =
    is ∙ (λ i. lists_merged room (were i) (came i)) ∙ summed_both room plan rows more ((λ i. merge_limit (sym were i) (sym came i)) ∙ none)

-- A chunk makes a count pass exactly where one passes in the summary of all rows.
module _ (plan : List PlanList) (rows more : List Row) where
  fits-all : (room : Option ℕ) → lists_fit most (summed room plan rows) (all_of plan more) ≡ lists_within most (summary_of plan (rows ++ more))
  fits-all room = lists-fit-is (length plan) rows more room None (Some tracked_most) 0 plan

  pub merging_passes : (room : Option ℕ) → (merge_limit (summed room plan rows) (all_of plan more) ≡ None) ↔ (passes (summary_of plan (rows ++ more)) ≡ false)
  merging_passes room =
      let small : most ≤ most = omega arith in (
        λ none. none_passes (summary_of plan (rows ++ more)) (sym (fits-all room) ∙ lists_fit_none 0 (summed room plan rows) (all_of plan more) none),
        λ after. lists_none most small 0 (summed room plan rows) (all_of plan more) (fits-all room ∙ within_unless (summary_of plan (rows ++ more)) after),
      )

-- the counts are the same, however many values are tracked
module _ (first second : Option ℕ) where
  parts-alike : (all : List PlanPart) (rows : List Row) (at : ℕ) (parts : List PlanPart) → parts_within most (parts_summed first all rows at parts) ≡ parts_within most (parts_summed second all rows at parts)
  parts-alike all rows at [] = refl
  parts-alike all rows at (part ∷ parts) =
      ap (λ b. (nat_le (count_by (λ node. node.clean) (nodes_of all at rows)) most && nat_le (count_by (λ node. not node.clean) (nodes_of all at rows)) most) && b) (parts-alike all rows (at + 1) parts)

  lists-alike : (count at : ℕ) (plans : List PlanList) (rows : List Row) → lists_within most (lists_summed first count at plans rows) ≡ lists_within most (lists_summed second count at plans rows)
  lists-alike count at [] rows = refl
  lists-alike count at (plan ∷ plans) rows =
      (λ i. parts-alike plan.parts (rows_of count at rows) 0 plan.parts i && lists-alike count (at + 1) plans rows i)

pub passes_alike : (plan : List PlanList) (rows : List Row) → passes (all_of plan rows) ≡ passes (summary_of plan rows)
passes_alike plan rows =
    passes_is (all_of plan rows) ∙ ap not (lists-alike None (Some tracked_most) (length plan) 0 plan rows) ∙ sym (passes_is (summary_of plan rows))

-- sums that leave nothing out
module _ (room : Option ℕ) where
  either : (a b : Bool) → (a || b) ≡ false → (a ≡ false) × (b ≡ false)
  either true b h = absurd (true≢false h)
  either false b h = (refl, h)

  nothing-left : (n : ℕ) → nat_lt 0 n ≡ false → n ≡ 0
  nothing-left n none = let h = ltb-false 0 n none in omega (arith, h)

  parts-whole : (all : List PlanPart) (rows : List Row) (at : ℕ) (parts : List PlanPart)
      → list_any (λ part. nat_lt 0 part.others) (parts_summed room all rows at parts) ≡ false → parts_summed room all rows at parts ≡ parts_summed None all rows at parts
  parts-whole all rows at [] none = refl
  parts-whole all rows at (part ∷ parts) none =
      let h = either _ _ none in
      (λ i. part_sum_whole room part.place part.form (nodes_of all at rows) (nothing-left _ h.0) i ∷ parts-whole all rows (at + 1) parts h.1 i)

  lists-whole : (count at : ℕ) (plans : List PlanList) (rows : List Row)
      → has_others (lists_summed room count at plans rows) ≡ false → lists_summed room count at plans rows ≡ lists_summed None count at plans rows
  lists-whole count at [] rows none = refl
  lists-whole count at (plan ∷ plans) rows none =
      let h = either _ _ none in
      (λ i. record { name = plan.name; parts = parts-whole plan.parts (rows_of count at rows) 0 plan.parts h.0 i } ∷ lists-whole count (at + 1) plans rows h.1 i)

-- The summary of rows is their chunk where nothing is left out.
pub summary_whole : (plan : List PlanList) (rows : List Row) → has_others (summary_of plan rows) ≡ false → summary_of plan rows ≡ all_of plan rows
summary_whole plan rows none = lists-whole (Some tracked_most) (length plan) 0 plan rows none

-- the same of what the code has
pub whole_rows : (plan copied : List PlanList) (lists same : List SumList) (rows : List Row) → has_others lists ≡ false → same ≡ lists → copied ≡ plan
    → lists ≡ summary_of plan rows → same ≡ all_of copied rows
whole_rows plan copied lists same rows none is kept were =
    is ∙ were ∙ summary_whole plan rows (ap has_others (sym were) ∙ none) ∙ ap (λ p. all_of p rows) (sym kept)
