-- Whether a row or a chunk would make a count pass the limit: the first such part of all lists numbered
-- together, its clean nodes looked at before the others, with the count that was wanted.
use Rattle.std.specs.Prelude.{ℕ, ◌+◌, ◌-◌, ◌^◌, min, nat_lt, Bool, not, ◌||◌, List, [], ◌∷◌, length, count_by, Option, Some, None, if◌then◌else◌}
use Rattle.std.specs.List.{list_any}
use Rattle.pads_value.specs.declared.row.Row.{Row}
use Rattle.pads_plan.specs.declared.part.PlanList.{PlanList}
use Rattle.pads_plan.specs.declared.part.PlanPart.{PlanPart}
use Rattle.pads_sums.specs.declared.part_sum.PartSum.{PartSum}
use Rattle.pads_sums.specs.declared.part_sum.SumList.{SumList}
use Rattle.pads_sums.specs.Nodes.{Node}
use Rattle.pads_accum.specs.declared.limit.Limit.{Limit}
use Rattle.pads_accum.specs.Summaries.{nodes_of, rows_of}

abbrev pub most : ℕ
most = 2 ^ 62

abbrev pub or_else : Option Limit → Option Limit → Option Limit
or_else None later = later
or_else (Some limit) later = Some limit

-- a count that rises by so many
abbrev pub over : ℕ → ℕ → ℕ → Option Limit
over part count more = if nat_lt most (count + more) then Some (record { part = part; count = min (count + more) (2 ^ 64 - 1) }) else None

abbrev pub part_over : ℕ → PartSum → List Node → Option Limit
part_over number sum nodes =
    or_else (over number sum.good (count_by (λ node. node.clean) nodes)) (over number sum.bad (count_by (λ node. not node.clean) nodes))

-- of the parts of a list from number `at` on; `before` parts stand in earlier lists
abbrev pub parts_over : List PlanPart → List Row → ℕ → ℕ → List PartSum → Option Limit
parts_over all rows before at [] = None
parts_over all rows before at (sum ∷ sums) =
    or_else (part_over (before + at) sum (nodes_of all at rows)) (parts_over all rows before (at + 1) sums)

abbrev pub lists_over : ℕ → ℕ → ℕ → List PlanList → List SumList → List Row → Option Limit
lists_over count before at [] lists rows = None
lists_over count before at (plan ∷ plans) [] rows = None
lists_over count before at (plan ∷ plans) (list ∷ lists) rows =
    or_else (parts_over plan.parts (rows_of count at rows) before 0 list.parts)
    (lists_over count (before + length list.parts) (at + 1) plans lists rows)

-- what the next row would make of a summary with this plan
abbrev pub limit_of : List PlanList → List SumList → Row → Option Limit
limit_of plan lists row = lists_over (length plan) 0 0 plan lists (row ∷ [])

-- what later sums of the same parts would make of sums, part by part, from part number `number` of all on
abbrev pub sums_over : ℕ → List PartSum → List PartSum → Option Limit
sums_over number [] more = None
sums_over number (sum ∷ sums) [] = None
sums_over number (sum ∷ sums) (later ∷ more) =
    or_else (or_else (over number sum.good later.good) (over number sum.bad later.bad)) (sums_over (number + 1) sums more)

abbrev pub merging_over : ℕ → List SumList → List SumList → Option Limit
merging_over before [] more = None
merging_over before (list ∷ lists) [] = None
merging_over before (list ∷ lists) (later ∷ more) =
    or_else (sums_over before list.parts later.parts) (merging_over (before + length list.parts) lists more)

-- what a chunk would make of a summary or of a chunk
abbrev pub merge_limit : List SumList → List SumList → Option Limit
merge_limit lists more = merging_over 0 lists more

-- whether good or bad of some part is above 2^62
abbrev pub passes : List SumList → Bool
passes lists = list_any (λ list. list_any (λ part. nat_lt most part.good || nat_lt most part.bad) list.parts) lists
