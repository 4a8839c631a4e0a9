-- The chunk of no rows, of one row more, and of rows with later ones behind them.
use Rattle.std.proofs.Common.{◌≡◌, ◌∙◌, sym, ap, ℕ, false, List, [], ◌∷◌, ◌++◌, Option, Some, None}
use Rattle.std.specs.Prelude.{IfOk, OnOk, Result, Ok, Err}
use Rattle.pads_value.specs.Refusals.{OnFault}
use Rattle.pads_value.specs.declared.memory.Refusal.{Refusal}
use Rattle.pads_value.specs.declared.memory.Refusal.TheVariants as refusal
use Rattle.pads_value.specs.declared.row.Row.{Row}
use Rattle.pads_plan.specs.declared.part.PlanList.{PlanList}
use Rattle.pads_accum.proofs.ChunkLaws.{merging_passes, passes_alike}
use Rattle.pads_accum.proofs.Passing.{passes_none}
use Rattle.pads_accum.specs.Limits.{limit_of, merge_limit, passes}
use Rattle.pads_accum.specs.States.{IsChunkOf, State, is_memory}
use Rattle.pads_accum.specs.Summaries.{all_of, summary_of}
use Rattle.pads_accum.specs.declared.limit.Limit.{Limit}
use Rattle.pads_batch.specs.Summing.{IsOver, IsSum, Takes}
use Rattle.pads_batch.proofs.Counted.{over-merged, row-limit}

module _ (plan : List PlanList) where
  sum-is : (rows : List Row) (new : State) → new.plan ≡ plan → new.spent ≡ false → IsChunkOf new rows → passes (summary_of plan rows) ≡ false → IsSum plan rows new
  sum-is rows new kept unspent is within = record {
    plan_is = kept;
    is_chunk = is;
    unspent = unspent;
    within = ap passes is ∙ ap (λ p. passes (all_of p rows)) kept ∙ passes_alike plan rows ∙ within;
  }

  sum-none : (chunk : State) → chunk.plan ≡ plan → IsChunkOf chunk [] → chunk.spent ≡ false → IsSum plan [] chunk
  sum-none chunk kept is unspent = sum-is [] chunk kept unspent is (passes_none plan)

  pub blank-sum : {E : Type 0} (made : Result State E) → IfOk made (λ chunk. chunk.plan ≡ plan) → IfOk made (λ chunk. IsChunkOf chunk []) → IfOk made (λ chunk. chunk.spent ≡ false)
      → IfOk made (IsSum plan [])
  blank-sum (Ok chunk) kept is unspent = sum-none chunk kept is unspent
  blank-sum (Err e) kept is unspent = tt

  lists-are : (rows : List Row) (chunk : State) → IsSum plan rows chunk → chunk.lists ≡ all_of plan rows
  lists-are rows chunk is = is.is_chunk ∙ ap (λ p. all_of p rows) is.plan_is

  -- a row more
  module _ (rows : List Row) (row : Row) (old : State) (is : IsSum plan rows old) where
    limit-here : limit_of old.plan old.lists row ≡ merge_limit (all_of plan rows) (all_of plan (row ∷ []))
    limit-here = (λ i. limit_of (is.plan_is i) (lists-are rows old is i) row) ∙ row-limit plan rows row

    sum-more : (new : State) → new.plan ≡ old.plan → new.spent ≡ false → IsChunkOf new (rows ++ row ∷ []) → limit_of old.plan old.lists row ≡ None → IsSum plan (rows ++ row ∷ []) new
    sum-more new kept unspent grown none =
        sum-is (rows ++ row ∷ []) new (kept ∙ is.plan_is) unspent grown ((merging_passes plan rows (row ∷ []) None).0 (sym limit-here ∙ none))

    pub row-takes : {T : Type 0} (new : State) (r : Result T (Refusal Limit)) → new.plan ≡ old.plan → new.spent ≡ is_memory r
        → OnOk r ((front : List Row) → IsChunkOf old front → IsChunkOf new (front ++ row ∷ []))
        → OnOk r (limit_of old.plan old.lists row ≡ None) → OnFault r (λ limit. limit_of old.plan old.lists row ≡ Some limit) → Takes plan (rows ++ row ∷ []) new r
    row-takes new (Ok done) kept unspent grown none over = sum-more new kept unspent (grown rows is.is_chunk) none
    row-takes new (Err (refusal.Fault limit)) kept unspent grown none over = over-merged plan rows (row ∷ []) limit (sym limit-here ∙ over)
    row-takes new (Err refusal.Memory) kept unspent grown none over = tt

  -- later rows
  pub joins : {T : Type 0} (before rows : List Row) (old later new : State) (r : Result T (Refusal Limit)) → IsSum plan before old → IsSum plan rows later
      → new.plan ≡ old.plan → new.spent ≡ is_memory r
      → OnOk r ((front more : List Row) → IsChunkOf old front → IsChunkOf later more → IsChunkOf new (front ++ more))
      → OnOk r (merge_limit old.lists later.lists ≡ None) → OnFault r (λ limit. merge_limit old.lists later.lists ≡ Some limit) → Takes plan (before ++ rows) new r
  joins before rows old later new (Ok done) is more kept unspent grown none over =
      let here : merge_limit old.lists later.lists ≡ merge_limit (all_of plan before) (all_of plan rows) =
      (λ i. merge_limit (lists-are before old is i) (lists-are rows later more i)) in
      sum-is (before ++ rows) new (kept ∙ is.plan_is) unspent (grown before rows is.is_chunk more.is_chunk) ((merging_passes plan before rows None).0 (sym here ∙ none))
  joins before rows old later new (Err (refusal.Fault limit)) is more kept unspent grown none over =
      let here : merge_limit old.lists later.lists ≡ merge_limit (all_of plan before) (all_of plan rows) =
      (λ i. merge_limit (lists-are before old is i) (lists-are rows later more i)) in
      over-merged plan before rows limit (sym here ∙ over)
  joins before rows old later new (Err refusal.Memory) is more kept unspent grown none over = tt
