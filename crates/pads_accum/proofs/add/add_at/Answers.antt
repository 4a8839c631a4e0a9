use Rattle.std.proofs.Common.{◌≡◌, ◌∙◌, ap, ℕ, ◌≤◌, true, List, Option, Some, None, Result, Ok, Err, IfOk, OnOk, get_or, slice_set, arith}
use Rattle.std.proofs.lemmas.Option.{slice_get-get_or}
use Rattle.pads_value.specs.declared.memory.Refusal.{Refusal}
use Rattle.pads_value.specs.declared.row.Row.{Row}
use Rattle.pads_plan.specs.declared.part.PlanList.{PlanList}
use Rattle.pads_sums.specs.declared.part_sum.SumList.{SumList}
use Rattle.pads_accum.specs.Feeding.{before_list, fed_over, fits_from, list_fed, lists_within, parts_within}
use Rattle.pads_accum.specs.Limits.{most}
use Rattle.pads_accum.specs.Placed.{row_nodes}
use Rattle.pads_accum.specs.declared.limit.Limit.{Limit}
use Rattle.pads_accum.proofs.Fitting.{none_fits}
use Rattle.pads_accum.proofs.ListFeeding.{lists_grown, within_set}
use Rattle.pads_accum.proofs.PartFeeding.{fed_within}
use Rattle.pads_accum.proofs.add.add_at.Goals as goal

-- the list at `at` with a row more, where its nodes fit a bound
module _ (room : Option ℕ) (plan : PlanList) (list new : SumList) (row : Row) where
  none-ok : (r : Result ℕ (Refusal Limit)) (before : ℕ) → IfOk r (λ next. fits_from next 0 list.parts (row_nodes plan.parts row) ≡ true) → IfOk r (λ next. next ≤ most)
      → OnOk r (fed_over (Some plan) (Some list) before row ≡ None)
  none-ok (Ok next) before fits small = none_fits next small before 0 list.parts (row_nodes plan.parts row) fits
  none-ok (Err e) before fits small = tt

  within-ok : (r : Result ℕ (Refusal Limit)) (lists : List SumList) (at bound : ℕ) → lists_within bound lists ≡ true → OnOk r (new ≡ list_fed room plan row list)
      → IfOk r (λ next. fits_from next 0 list.parts (row_nodes plan.parts row) ≡ true) → IfOk r (λ next. bound ≤ next)
      → IfOk r (λ next. lists_within next (slice_set lists at new) ≡ true)
  within-ok (Ok next) lists at bound within is fits grows =
      within_set next lists at new (lists_grown bound next grows lists within)
      (ap (λ (l : SumList). parts_within next l.parts) is ∙ fed_within room plan.parts next list.parts (row_nodes plan.parts row) fits)
  within-ok (Err e) lists at bound within is fits grows = tt

pub returns-clause-none : goal.returns-clause-none
returns-clause-none c =
    let list = get_or c.args.lists.now c.args.at c.index-lists-at.result in
    let there = slice_get-get_or c.args.lists.now c.args.at c.index-lists-at.result (omega (arith, c.if-at-lists.false)) in
    rw there
    (none-ok c.args.room c.args.guide.now.plan list list c.args.row.now c.add_to_list.result (before_list c.args.lists.now c.args.at) c.add_to_list.ensures.fits c.add_to_list.ensures.small)

pub returns-clause-within : goal.returns-clause-within
returns-clause-within c =
    within-ok c.args.room c.args.guide.now.plan (get_or c.args.lists.now c.args.at c.index-lists-at.result) c.add_to_list.new.list c.args.row.now c.add_to_list.result c.args.lists.now c.args.at c.args.bound
    c.requires.within c.add_to_list.ensures.fed c.add_to_list.ensures.fits c.add_to_list.ensures.grows
