-- When counts of a summary are above the limit: with more rows as well, and with one row more exactly
-- where that row would make one pass.
use Rattle.std.specs.Cmp.Derive.{both_true}
use Rattle.pads_sums.proofs.Lists.{both, count_append}
use Rattle.std.proofs.Common.{◌≡◌, ◌∙◌, sym, ap, refl, ℕ, zero, suc, ◌+◌, ◌≤◌, ◌<◌, ◌↔◌, nat_le, nat_lt, nat_eq, Bool, true, false, true≢false, not, ◌&&◌, ◌||◌, List, [], ◌∷◌, ◌++◌, length, Option, Some, None, slice_get, leb-true, le-leb, lt-ltb, le-ltb, arith}
use Rattle.std.proofs.lemmas.Bool.{leb-false}
use Rattle.std.specs.List.{count_by, flat_map, list_any}
use Rattle.std.proofs.lemmas.Grind.{flat_map-append}
use Rattle.std.proofs.lemmas.List.Elements.{filter-append}
use Rattle.pads_value.specs.declared.row.Row.{Row}
use Rattle.pads_sums.specs.Nodes.{Node}
use Rattle.pads_plan.specs.declared.part.PlanList.{PlanList}
use Rattle.pads_plan.specs.declared.part.PlanPart.{PlanPart}
use Rattle.pads_sums.specs.Sums.{most as tracked_most}
use Rattle.pads_sums.specs.declared.part_sum.PartSum.{PartSum}
use Rattle.pads_sums.specs.declared.part_sum.SumList.{SumList}
use Rattle.pads_accum.specs.Feeding.{before_list, fed_over, fits_from, lists_within, part_within, parts_within}
use Rattle.pads_accum.specs.Limits.{limit_of, most, passes}
use Rattle.pads_accum.specs.Placed.{row_nodes}
use Rattle.pads_accum.specs.Summaries.{fed, list_summed, lists_summed, nodes_of, parts_summed, picked, rows_of, summary_of}
use Rattle.pads_accum.proofs.EmptyLaws.{zero_within}
use Rattle.pads_accum.proofs.Fitting.{fits_none, none_fits}
use Rattle.pads_accum.proofs.ListFeeding.{later_lists, limit_is, lists_grown, other_list, fed_row, rows_next}
use Rattle.pads_accum.proofs.PartFeeding.{nodes_next, picked_append}

-- to pass is not to be within
count-passes : (n : ℕ) (b : Bool) → nat_le n most ≡ b → nat_lt most n ≡ not b
count-passes n true within = le-ltb most n (leb-true n most within)
count-passes n false above = lt-ltb most n (let h = leb-false n most above in omega (arith, h))

part-step : (sum : PartSum) (good bad : Bool) → nat_lt most sum.good ≡ not good → nat_lt most sum.bad ≡ not bad → (nat_lt most sum.good || nat_lt most sum.bad) ≡ not (good && bad)
part-step sum true bad hg hb = (λ i. hg i || hb i)
part-step sum false bad hg hb = (λ i. hg i || hb i)

part-passes : (sum : PartSum) → (nat_lt most sum.good || nat_lt most sum.bad) ≡ not (part_within most sum)
part-passes sum = part-step sum (nat_le sum.good most) (nat_le sum.bad most) (count-passes sum.good _ refl) (count-passes sum.bad _ refl)

or-not : (a b : Bool) → (not a || not b) ≡ not (a && b)
or-not true b = refl
or-not false b = refl

parts-pass : (sums : List PartSum) → list_any (λ part. nat_lt most part.good || nat_lt most part.bad) sums ≡ not (parts_within most sums)
parts-pass [] = refl
parts-pass (sum ∷ sums) = (λ i. part-passes sum i || parts-pass sums i) ∙ or-not (part_within most sum) (parts_within most sums)

pub passes_is : (lists : List SumList) → passes lists ≡ not (lists_within most lists)
passes_is [] = refl
passes_is (list ∷ lists) = (λ i. parts-pass list.parts i || passes_is lists i) ∙ or-not (parts_within most list.parts) (lists_within most lists)

within-from : (lists : List SumList) (b : Bool) → lists_within most lists ≡ b → passes lists ≡ false → lists_within most lists ≡ true
within-from lists true is none = is
within-from lists false is none = absurd (true≢false (sym (passes_is lists ∙ ap not is) ∙ none))

pub within_unless : (lists : List SumList) → passes lists ≡ false → lists_within most lists ≡ true
within_unless lists none = within-from lists (lists_within most lists) refl none

pub none_passes : (lists : List SumList) → lists_within most lists ≡ true → passes lists ≡ false
none_passes lists within = passes_is lists ∙ ap not within

-- the summary of no rows passes nothing
pub passes_none : (plan : List PlanList) → passes (summary_of plan []) ≡ false
passes_none plan = none_passes (summary_of plan []) (lists_grown 0 most (omega arith) (summary_of plan []) (zero_within (Some tracked_most) plan))

-- more rows give no smaller counts, so within with them is within without them
module _ (room : Option ℕ) (rows more : List Row) where
  pub nodes_more : (all : List PlanPart) (at : ℕ) → nodes_of all at (rows ++ more) ≡ nodes_of all at rows ++ nodes_of all at more
  nodes_more all at =
      ap (picked at) (flat_map-append (row_nodes all) rows more) ∙ picked_append at (flat_map (row_nodes all) rows) (flat_map (row_nodes all) more)

  fewer : (test : Node → Bool) (all : List PlanPart) (at : ℕ)
      → nat_le (count_by test (nodes_of all at (rows ++ more))) most ≡ true → nat_le (count_by test (nodes_of all at rows)) most ≡ true
  fewer test all at within =
      let h = leb-true _ most within in
      let all-nodes = ap (count_by test) (nodes_more all at) ∙ count_append test (nodes_of all at rows) (nodes_of all at more) in
      le-leb _ most (omega (arith, h, all-nodes))

  parts-fewer : (all : List PlanPart) (at : ℕ) (parts : List PlanPart)
      → parts_within most (parts_summed room all (rows ++ more) at parts) ≡ true → parts_within most (parts_summed room all rows at parts) ≡ true
  parts-fewer all at [] within = refl
  parts-fewer all at (part ∷ parts) within =
      let h = both _ _ within in
      let counts = both _ _ h.0 in
      both_true (both_true (fewer (λ node. node.clean) all at counts.0) (fewer (λ node. not node.clean) all at counts.1)) (parts-fewer all (at + 1) parts h.1)

module _ (room : Option ℕ) (count : ℕ) (rows more : List Row) where
  lists-fewer : (at : ℕ) (plans : List PlanList)
      → lists_within most (lists_summed room count at plans (rows ++ more)) ≡ true → lists_within most (lists_summed room count at plans rows) ≡ true
  lists-fewer at [] within = refl
  lists-fewer at (plan ∷ plans) within =
      let h = both _ _ within in
      let mine : rows_of count at (rows ++ more) ≡ rows_of count at rows ++ rows_of count at more = filter-append (λ (r : Row). nat_eq (fed count r.number) at) rows more in
      both_true
      (parts-fewer room (rows_of count at rows) (rows_of count at more) plan.parts 0 plan.parts
      (ap (λ rs. parts_within most (parts_summed room plan.parts rs 0 plan.parts)) (sym mine) ∙ h.0))
      (lists-fewer (at + 1) plans h.1)

passes-step : (plan : List PlanList) (rows more : List Row) (b : Bool) → passes (summary_of plan (rows ++ more)) ≡ b → passes (summary_of plan rows) ≡ true → b ≡ true
passes-step plan rows more true is pass = refl
passes-step plan rows more false is pass =
    absurd (true≢false (sym pass ∙ none_passes (summary_of plan rows) (lists-fewer (Some tracked_most) (length plan) rows more 0 plan (within_unless (summary_of plan (rows ++ more)) is))))

-- a count that is above stays above
pub passes_on : (plan : List PlanList) (rows more : List Row) → passes (summary_of plan rows) ≡ true → passes (summary_of plan (rows ++ more)) ≡ true
passes_on plan rows more pass = passes-step plan rows more (passes (summary_of plan (rows ++ more))) refl pass

-- the nodes of one row more fit where the sums with it are within
module _ (room : Option ℕ) (all : List PlanPart) (rows : List Row) (row : Row) where
  count-is : (test : Node → Bool) (at : ℕ) → count_by test (nodes_of all at rows) + count_by test (picked at (row_nodes all row)) ≡ count_by test (nodes_of all at (rows ++ row ∷ []))
  count-is test at = sym (ap (count_by test) (nodes_next all at rows row) ∙ count_append test (nodes_of all at rows) (picked at (row_nodes all row)))

  fits-is : (at : ℕ) (parts : List PlanPart) → fits_from most at (parts_summed room all rows at parts) (row_nodes all row) ≡ parts_within most (parts_summed room all (rows ++ row ∷ []) at parts)
  fits-is at [] = refl
  fits-is at (part ∷ parts) =
      (λ i. (nat_le (count-is (λ node. node.clean) at i) most && nat_le (count-is (λ node. not node.clean) at i) most) && fits-is (at + 1) parts i)

module _ (room : Option ℕ) (rows : List Row) (row : Row) (count : ℕ) where
  -- the list that is fed
  fed-within : (at : ℕ) (plan : PlanList) → fed count row.number ≡ at
      → fits_from most 0 (list_summed room plan (rows_of count at rows)).parts (row_nodes plan.parts row) ≡ parts_within most (list_summed room plan (rows_of count at (rows ++ row ∷ []))).parts
  fed-within at plan here =
      fits-is room plan.parts (rows_of count at rows) row 0 plan.parts
      ∙ ap (λ rs. parts_within most (list_summed room plan rs).parts) (ap (λ more. rows_of count at rows ++ more) (sym (fed_row count row at here)) ∙ sym (rows_next count at rows row))

  lists-limit : (at i before : ℕ) (plans : List PlanList) → fed count row.number ≡ at + i → lists_within most (lists_summed room count at plans rows) ≡ true
      → (fed_over (slice_get plans i) (slice_get (lists_summed room count at plans rows) i) before row ≡ None) ↔ (lists_within most (lists_summed room count at plans (rows ++ row ∷ [])) ≡ true)
  lists-limit at i before [] is within = (λ none. refl, λ after. refl)
  lists-limit at zero before (plan ∷ plans) is within =
      let small : most ≤ most = omega arith in
      let here : fed count row.number ≡ at = omega (arith, is) in
      let further : fed count row.number < at + 1 = omega (arith, here) in
      let h = both _ _ within in
      let sums = (list_summed room plan (rows_of count at rows)).parts in
      let rest = ap (lists_within most) (sym (later_lists room rows row count (at + 1) plans further)) ∙ h.1 in
      let mine = fed-within at plan here in (
        λ none. both_true (sym mine ∙ fits_none before 0 sums (row_nodes plan.parts row) none) rest,
        λ after. none_fits most small before 0 sums (row_nodes plan.parts row) (mine ∙ (both _ _ after).0),
      )
  lists-limit at (suc i) before (plan ∷ plans) is within =
      let apart : fed count row.number ≡ at → ⊥ = λ e. omega (arith, e, is) in
      let next : fed count row.number ≡ at + 1 + i = omega (arith, is) in
      let h = both _ _ within in
      let same = ap (λ (list : SumList). parts_within most list.parts) (sym (other_list room rows row count at plan apart)) ∙ h.0 in
      let more = lists-limit (at + 1) i before plans next h.1 in
      (λ none. both_true same (more.0 none), λ after. more.1 (both _ _ after).1)

-- A row makes a count pass the limit exactly where the sums with it pass.
pub passes_next : (plan : List PlanList) (rows : List Row) (row : Row) → passes (summary_of plan rows) ≡ false
    → (limit_of plan (summary_of plan rows) row ≡ None) ↔ (passes (summary_of plan (rows ++ row ∷ [])) ≡ false)
passes_next plan rows row none =
    let within = within_unless (summary_of plan rows) none in
    let at = fed (length plan) row.number in
    let is = limit_is row plan (summary_of plan rows) within in
    let zero_more : at ≡ 0 + at = omega arith in
    let more = lists-limit (Some tracked_most) rows row (length plan) 0 at (before_list (summary_of plan rows) at) plan zero_more within in
    (λ limit. none_passes (summary_of plan (rows ++ row ∷ [])) (more.0 (sym is ∙ limit)), λ after. is ∙ more.1 (within_unless (summary_of plan (rows ++ row ∷ [])) after))
