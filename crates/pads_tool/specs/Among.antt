-- Counts of rows that are above their limit are above it among other rows too, as the commands say that count.
use Rattle.std.specs.Cmp.Derive.{both_true}
use Rattle.std.proofs.Common.{◌≡◌, ◌∙◌, sym, ap, refl, ℕ, ◌+◌, ◌^◌, nat_le, nat_eq, Bool, true, false, true≢false, not, List, [], ◌∷◌, ◌++◌, length, length-append, Option, Some, leb-true, le-leb, arith}
use Rattle.std.proofs.lemmas.Bool.{lt-ltb, ltb-true}
use Rattle.std.proofs.lemmas.List.Elements.{filter-append}
use Rattle.std.proofs.lemmas.List.Sums.{sum_by-append}
use Rattle.std.specs.List.{count_by}
use Rattle.pads_accum.proofs.Passing.{nodes_more, none_passes, passes_on, within_unless}
use Rattle.pads_accum.specs.Feeding.{lists_within, parts_within}
use Rattle.pads_accum.specs.Limits.{most, passes}
use Rattle.pads_accum.specs.Summaries.{fed, lists_summed, nodes_of, parts_summed, rows_of, summary_of}
use Rattle.pads_plan.specs.declared.part.PlanList.{PlanList}
use Rattle.pads_plan.specs.declared.part.PlanPart.{PlanPart}
use Rattle.pads_selftest.proofs.Limits.{above-still}
use Rattle.pads_sums.proofs.Lists.{both, count_append}
use Rattle.pads_sums.specs.Nodes.{Node}
use Rattle.pads_sums.specs.Sums.{most as tracked_most}
use Rattle.pads_value.specs.declared.row.Row.{Row}
use Rattle.pads_tool.specs.Describing.{Description}
use Rattle.pads_tool.specs.Printing.{prints}
use Rattle.pads_tool.specs.Testing.{printed_bytes, tests}

module _ (room : Option ℕ) (before rows : List Row) where
  fewer : (test : Node → Bool) (all : List PlanPart) (at : ℕ)
      → nat_le (count_by test (nodes_of all at (before ++ rows))) most ≡ true → nat_le (count_by test (nodes_of all at rows)) most ≡ true
  fewer test all at within =
      let h = leb-true _ most within in
      let all-nodes = ap (count_by test) (nodes_more room before rows all at) ∙ count_append test (nodes_of all at before) (nodes_of all at rows) in
      le-leb _ most (omega (arith, h, all-nodes))

  parts-fewer : (all : List PlanPart) (at : ℕ) (parts : List PlanPart)
      → parts_within most (parts_summed room all (before ++ rows) at parts) ≡ true → parts_within most (parts_summed room all rows at parts) ≡ true
  parts-fewer all at [] within = refl
  parts-fewer all at (part ∷ parts) within =
      let h = both _ _ within in
      let counts = both _ _ h.0 in
      both_true (both_true (fewer (λ node. node.clean) all at counts.0) (fewer (λ node. not node.clean) all at counts.1)) (parts-fewer all (at + 1) parts h.1)

module _ (room : Option ℕ) (count : ℕ) (before rows : List Row) where
  lists-fewer : (at : ℕ) (plans : List PlanList)
      → lists_within most (lists_summed room count at plans (before ++ rows)) ≡ true → lists_within most (lists_summed room count at plans rows) ≡ true
  lists-fewer at [] within = refl
  lists-fewer at (plan ∷ plans) within =
      let h = both _ _ within in
      let mine : rows_of count at (before ++ rows) ≡ rows_of count at before ++ rows_of count at rows = filter-append (λ (r : Row). nat_eq (fed count r.number) at) before rows in
      both_true
      (parts-fewer room (rows_of count at before) (rows_of count at rows) plan.parts 0 plan.parts
      (ap (λ rs. parts_within most (parts_summed room plan.parts rs 0 plan.parts)) (sym mine) ∙ h.0))
      (lists-fewer (at + 1) plans h.1)

passes-step : (plan : List PlanList) (before rows : List Row) (b : Bool) → passes (summary_of plan (before ++ rows)) ≡ b → passes (summary_of plan rows) ≡ true → b ≡ true
passes-step plan before rows true is pass = refl
passes-step plan before rows false is pass =
    absurd (true≢false (sym pass ∙ none_passes (summary_of plan rows) (lists-fewer (Some tracked_most) (length plan) before rows 0 plan (within_unless (summary_of plan (before ++ rows)) is))))

pub passes-among : (plan : List PlanList) (before rows more : List Row) → passes (summary_of plan rows) ≡ true → passes (summary_of plan ((before ++ rows) ++ more)) ≡ true
passes-among plan before rows more pass =
    passes_on plan (before ++ rows) more (passes-step plan before rows (passes (summary_of plan (before ++ rows))) refl pass)

-- Rows that can't be counted can't be counted among others.
pub over-among : (d : Description) (before rows more : List Row) → (tests d).is_over rows ≡ true → (tests d).is_over ((before ++ rows) ++ more) ≡ true
over-among d before rows more over =
    let size : Row → ℕ = λ row. length ((prints d).out row) in
    let above = ltb-true (2 ^ 62) (length rows + printed_bytes d rows) over in
    let among = lt-ltb (2 ^ 62) (length (before ++ rows) + printed_bytes d (before ++ rows)) (omega (arith, above, length-append before rows, sum_by-append size before rows)) in
    above-still size (2 ^ 62) (before ++ rows) more among
