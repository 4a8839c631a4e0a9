-- A plan has at most two lists, and sums have as many with a row more and with later sums.
use Rattle.std.proofs.Common.{◌≡◌, ◌∙◌, sym, ap, refl, ℕ, zero, suc, ◌+◌, ◌≤◌, List, [], ◌∷◌, length, map, Option, Some, None, slice_get, slice_set, arith}
use Rattle.pads_module.specs.Modules.{Contents}
use Rattle.pads_plan.specs.Plans.{list_of, lists_of, with_head}
use Rattle.pads_plan.specs.declared.part.PlanList.{PlanList}
use Rattle.pads_sums.specs.declared.part_sum.SumList.{SumList}
use Rattle.pads_value.specs.declared.row.Row.{Row}
use Rattle.pads_accum.specs.Feeding.{fed_in, list_fed, lists_fed}
use Rattle.pads_accum.specs.Merging.{each_with, lists_merged, list_merged}
use Rattle.pads_accum.specs.Summaries.{fed, lists_summed, summed}

few-types : (f : ℕ → PlanList) (head : Option ℕ) (each : ℕ) → length (map f (with_head head each)) ≤ 2
few-types f None each = omega arith
few-types f (Some head) each = omega arith

pub few_lists : (m : Contents) → length (lists_of m) ≤ 2
few_lists m = few-types (list_of m.decls m.names) m.shape.head m.shape.each

-- one item written
length-set : {X : Type 0} (xs : List X) (at : ℕ) (new : X) → length (slice_set xs at new) ≡ length xs
length-set [] at new = refl
length-set (x ∷ xs) zero new = refl
length-set (x ∷ xs) (suc at) new = ap suc (length-set xs at new)

module _ (room : Option ℕ) where
  length-in : (plan : Option PlanList) (list : Option SumList) (at : ℕ) (row : Row) (lists : List SumList) → length (fed_in room plan list at row lists) ≡ length lists
  length-in None list at row lists = refl
  length-in (Some plan) None at row lists = refl
  length-in (Some plan) (Some list) at row lists = length-set lists at (list_fed room plan row list)

  pub length_fed : (plan : List PlanList) (lists : List SumList) (row : Row) → length (lists_fed room plan lists row) ≡ length lists
  length_fed plan lists row =
      let at = fed (length plan) row.number in length-in (slice_get plan at) (slice_get lists at) at row lists

  pub length_merged : (lists more : List SumList) → length (lists_merged room lists more) ≡ length lists
  length_merged [] more = refl
  length_merged (list ∷ lists) [] = refl
  length_merged (list ∷ lists) (later ∷ more) = ap suc (length_merged lists more)

  length-lists : (count at : ℕ) (plans : List PlanList) (rows : List Row) → length (lists_summed room count at plans rows) ≡ length plans
  length-lists count at [] rows = refl
  length-lists count at (plan ∷ plans) rows = ap suc (length-lists count (at + 1) plans rows)

  pub length_summed : (plan : List PlanList) (rows : List Row) → length (summed room plan rows) ≡ length plan
  length_summed plan rows = length-lists (length plan) 0 plan rows
