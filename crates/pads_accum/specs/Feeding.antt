-- What a row makes of sums, node by node, and whether its nodes fit; for private clauses.
use Rattle.std.specs.Prelude.{ℕ, zero, suc, ◌+◌, nat_le, Bool, true, not, ◌&&◌, List, [], ◌∷◌, length, fold, count_by, Option, Some, None, slice_get, slice_set}
use Rattle.std.specs.List.{list_all}
use Rattle.pads_value.specs.declared.row.Row.{Row}
use Rattle.pads_plan.specs.declared.part.PlanList.{PlanList}
use Rattle.pads_plan.specs.declared.part.PlanPart.{PlanPart}
use Rattle.pads_sums.specs.Nodes.{Node}
use Rattle.pads_sums.specs.Adding.{with_node}
use Rattle.pads_sums.specs.declared.part_sum.PartSum.{PartSum}
use Rattle.pads_sums.specs.declared.part_sum.SumList.{SumList}
use Rattle.pads_accum.specs.declared.limit.Limit.{Limit}
use Rattle.pads_accum.specs.Limits.{or_else, part_over}
use Rattle.pads_accum.specs.Placed.{Placed, row_nodes}
use Rattle.pads_accum.specs.Summaries.{fed, picked}

module _ (room : Option ℕ) where
  -- a node of part `at`
  abbrev pub fed_at : Option PlanPart → Option PartSum → ℕ → Node → List PartSum → List PartSum
  fed_at None sum at node sums = sums
  fed_at (Some part) None at node sums = sums
  fed_at (Some part) (Some sum) at node sums = slice_set sums at (with_node room part.form sum node)

  -- one node
  abbrev pub one_fed : List PlanPart → List PartSum → Placed → List PartSum
  one_fed parts sums placed = fed_at (slice_get parts placed.part) (slice_get sums placed.part) placed.part placed.node sums

  abbrev pub all_fed : List PlanPart → List PartSum → List Placed → List PartSum
  all_fed parts sums placed = fold (one_fed parts) sums placed

  abbrev pub list_fed : PlanList → Row → SumList → SumList
  list_fed plan row list = record list { parts = all_fed plan.parts list.parts (row_nodes plan.parts row) }

  abbrev pub fed_in : Option PlanList → Option SumList → ℕ → Row → List SumList → List SumList
  fed_in None list at row lists = lists
  fed_in (Some plan) None at row lists = lists
  fed_in (Some plan) (Some list) at row lists = slice_set lists at (list_fed plan row list)

  -- one row, in the list that it feeds
  abbrev pub lists_fed : List PlanList → List SumList → Row → List SumList
  lists_fed plan lists row =
      let at = fed (length plan) row.number in
      fed_in (slice_get plan at) (slice_get lists at) at row lists

-- what these nodes make of a list's sums of the parts from number `at` on; `before` parts stand in earlier
-- lists
abbrev pub placed_over : ℕ → ℕ → List PartSum → List Placed → Option Limit
placed_over before at [] placed = None
placed_over before at (sum ∷ sums) placed = or_else (part_over (before + at) sum (picked at placed)) (placed_over before (at + 1) sums placed)

-- whether no count passes a bound
module _ (bound : ℕ) where
  abbrev pub part_within : PartSum → Bool
  part_within sum = nat_le sum.good bound && nat_le sum.bad bound

  abbrev pub parts_within : List PartSum → Bool
  parts_within sums = list_all part_within sums

  abbrev pub lists_within : List SumList → Bool
  lists_within lists = list_all (λ list. parts_within list.parts) lists

  -- with these nodes, from part number `at` on
  abbrev pub fits_from : ℕ → List PartSum → List Placed → Bool
  fits_from at [] placed = true
  fits_from at (sum ∷ sums) placed =
      (nat_le (sum.good + count_by (λ node. node.clean) (picked at placed)) bound && nat_le (sum.bad + count_by (λ node. not node.clean) (picked at placed)) bound)
      && fits_from (at + 1) sums placed

-- how many parts stand in earlier lists
abbrev pub before_list : List SumList → ℕ → ℕ
before_list lists zero = 0
before_list [] (suc at) = 0
before_list (list ∷ lists) (suc at) = length list.parts + before_list lists at

-- what a row makes of the list that it feeds
abbrev pub fed_over : Option PlanList → Option SumList → ℕ → Row → Option Limit
fed_over None list before row = None
fed_over (Some plan) None before row = None
fed_over (Some plan) (Some list) before row = placed_over before 0 list.parts (row_nodes plan.parts row)
