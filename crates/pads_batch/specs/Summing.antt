-- The chunk of the rows of records that follow one another, and what is answered where it can't count them.
use Rattle.std.specs.Prelude.{◌≡◌, ℕ, zero, suc, ◌<◌, ◌≤◌, ◌⊎◌, false, List, [], ◌∷◌, ◌++◌, Result, Ok, Err, flat_map}
use Rattle.pads_value.specs.Cuts.{Cut}
use Rattle.pads_value.specs.declared.memory.Refusal.{Refusal}
use Rattle.pads_value.specs.declared.memory.Refusal.TheVariants as refusal
use Rattle.pads_value.specs.declared.row.Row.{Row}
use Rattle.pads_plan.specs.declared.part.PlanList.{PlanList}
use Rattle.pads_sums.specs.declared.part_sum.PartSum.{PartSum}
use Rattle.pads_sums.specs.declared.part_sum.SumList.{SumList}
use Rattle.pads_accum.specs.Limits.{most, passes}
use Rattle.pads_accum.specs.States.{IsChunkOf, State}
use Rattle.pads_accum.specs.Summaries.{all_of}
use Rattle.pads_accum.specs.declared.limit.Limit.{Limit}
use Rattle.pads_batch.specs.Reading.{AreRows}

-- Good or bad of the part of this number is at least so much.
abbrev pub HasCount : List PartSum → ℕ → ℕ → Type 0
HasCount [] number count = ⊥
HasCount (part ∷ parts) zero count = (count ≤ part.good) ⊎ (count ≤ part.bad)
HasCount (part ∷ parts) (suc number) count = HasCount parts number count

-- the sums of all parts, numbered together from 0
abbrev pub parts_of : List SumList → List PartSum
parts_of lists = flat_map (λ list. list.parts) lists

module _ (plan : List PlanList) where
  -- It is the chunk of these rows, and none of its counts is above 2^62.
  pub record IsSum (rows : List Row) (chunk : State) : Type 0 where
    pub plan_is : chunk.plan ≡ plan
    pub is_chunk : IsChunkOf chunk rows
    pub unspent : chunk.spent ≡ false
    pub within : passes chunk.lists ≡ false

  -- The limit names a part of which these rows make good or bad pass 2^62, with a count above that which is
  -- at most the larger of the two.
  pub record IsOver (rows : List Row) (limit : Limit) : Type 0 where
    pub above : most < limit.count
    pub there : HasCount (parts_of (all_of plan rows)) limit.part limit.count

  -- Of want of memory nothing is said.
  abbrev pub Refuses : List Row → Refusal Limit → Type 0
  Refuses rows (refusal.Fault limit) = IsOver rows limit
  Refuses rows refusal.Memory = Unit {0}

  -- the chunk of these rows, or a refusal
  abbrev pub Sums : List Row → Result State (Refusal Limit) → Type 0
  Sums rows (Ok chunk) = IsSum rows chunk
  Sums rows (Err refused) = Refuses rows refused

  -- private: a chunk has taken these rows, or refuses them
  abbrev pub Takes : {T : Type 0} → List Row → State → Result T (Refusal Limit) → Type 0
  Takes rows chunk (Ok done) = IsSum rows chunk
  Takes rows chunk (Err refused) = Refuses rows refused

  -- private: what is answered for the rows of parts that follow one another
  abbrev pub AreSums : List Row → List (Result State (Refusal Limit)) → Type 0
  AreSums rows [] = rows ≡ []
  AreSums rows (part ∷ parts) = (front : List Row) × (more : List Row) × (rows ≡ front ++ more) × Sums front part × AreSums more parts

-- for records that have such rows, the first of this number, in these frames
module _ (IsRow : ℕ → Cut → Row → Type 0) (plan : List PlanList) (number : ℕ) (cuts : List Cut) where
  pub record IsSummed (outcome : Result State (Refusal Limit)) : Type 0 where
    pub rows : List Row
    pub are : AreRows IsRow number cuts rows
    pub sums : Sums plan rows outcome

  -- the same, but for want of memory
  abbrev pub SumsRows : Result State (Refusal Limit) → Type 0
  SumsRows (Ok chunk) = (rows : List Row) × AreRows IsRow number cuts rows × IsSum plan rows chunk
  SumsRows (Err (refusal.Fault limit)) = (rows : List Row) × AreRows IsRow number cuts rows × IsOver plan rows limit
  SumsRows (Err refusal.Memory) = Unit {0}
