-- What a summary or a chunk has: the plan that it was made for, the sums of each list of it, and whether it is spent,
-- as it is after want of memory.
use Rattle.std.specs.Prelude.{◌≡◌, nat_lt, Bool, true, false, List, Option, Some, None, Result, Ok, Err}
use Rattle.std.specs.List.{list_any}
use Rattle.pads_value.specs.declared.memory.Refusal.{Refusal}
use Rattle.pads_value.specs.declared.memory.Refusal.TheVariants as refusal
use Rattle.pads_value.specs.declared.row.Row.{Row}
use Rattle.pads_plan.specs.declared.part.PlanList.{PlanList}
use Rattle.pads_sums.specs.declared.part_sum.SumList.{SumList}
use Rattle.pads_accum.specs.Summaries.{all_of, summary_of}

pub record State : Type 0 where
  pub plan : List PlanList
  pub lists : List SumList
  pub spent : Bool

-- the sums are those of these rows
abbrev pub IsSummaryOf : State → List Row → Type 0
IsSummaryOf state rows = state.lists ≡ summary_of state.plan rows

abbrev pub IsChunkOf : State → List Row → Type 0
IsChunkOf state rows = state.lists ≡ all_of state.plan rows

-- whether some part has samples whose values aren't tracked
abbrev pub has_others : List SumList → Bool
has_others lists = list_any (λ list. list_any (λ part. nat_lt 0 part.others) list.parts) lists

-- whether memory ran out
abbrev pub is_memory : {T F : Type 0} → Result T (Refusal F) → Bool
is_memory (Ok made) = false
is_memory (Err (refusal.Fault fault)) = false
is_memory (Err refusal.Memory) = true
