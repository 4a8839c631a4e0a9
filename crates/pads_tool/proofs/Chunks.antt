-- A chunk meets the limit at a row where a summary of the same rows does.
use Rattle.std.proofs.Common.{◌≡◌, ◌∙◌, ap, refl, ℕ, suc, ◌+◌, List, [], ◌∷◌, length, Option, Some, None}
use Rattle.pads_accum.specs.Limits.{limit_of, lists_over, or_else, parts_over}
use Rattle.pads_accum.specs.Summaries.{all_of, lists_summed, parts_summed, rows_of, summary_of}
use Rattle.pads_plan.specs.declared.part.PlanList.{PlanList}
use Rattle.pads_plan.specs.declared.part.PlanPart.{PlanPart}
use Rattle.pads_sums.specs.Sums.{most as tracked_most}
use Rattle.pads_value.specs.declared.row.Row.{Row}

-- However many values are tracked, a row is over the limit at the same part.
module _ (first second : Option ℕ) where
  lengths-alike : (all : List PlanPart) (old : List Row) (at : ℕ) (parts : List PlanPart) → length (parts_summed first all old at parts) ≡ length (parts_summed second all old at parts)
  lengths-alike all old at [] = refl
  lengths-alike all old at (part ∷ parts) = ap suc (lengths-alike all old (at + 1) parts)

  parts-over-alike : (all whole : List PlanPart) (old rows : List Row) (before at : ℕ) (parts : List PlanPart)
      → parts_over whole rows before at (parts_summed first all old at parts) ≡ parts_over whole rows before at (parts_summed second all old at parts)
  parts-over-alike all whole old rows before at [] = refl
  parts-over-alike all whole old rows before at (part ∷ parts) = ap (or_else _) (parts-over-alike all whole old rows before (at + 1) parts)

  lists-over-alike : (count before at : ℕ) (plans : List PlanList) (old rows : List Row)
      → lists_over count before at plans (lists_summed first count at plans old) rows ≡ lists_over count before at plans (lists_summed second count at plans old) rows
  lists-over-alike count before at [] old rows = refl
  lists-over-alike count before at (plan ∷ plans) old rows =
      let lengths = lengths-alike plan.parts (rows_of count at old) 0 plan.parts in
      ap (λ limit. or_else limit (lists_over count (before + length (parts_summed first plan.parts (rows_of count at old) 0 plan.parts)) (at + 1) plans (lists_summed first count (at + 1) plans old) rows))
      (parts-over-alike plan.parts plan.parts (rows_of count at old) (rows_of count at rows) before 0 plan.parts)
      ∙ ap (or_else _) (ap (λ n. lists_over count (before + n) (at + 1) plans (lists_summed first count (at + 1) plans old) rows) lengths
      ∙ lists-over-alike count (before + length (parts_summed second plan.parts (rows_of count at old) 0 plan.parts)) (at + 1) plans old rows)

pub limit-alike : (plan : List PlanList) (rows : List Row) (row : Row) → limit_of plan (all_of plan rows) row ≡ limit_of plan (summary_of plan rows) row
limit-alike plan rows row = lists-over-alike None (Some tracked_most) (length plan) 0 0 plan rows (row ∷ [])
