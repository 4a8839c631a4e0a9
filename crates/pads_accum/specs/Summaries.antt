-- The summary of rows: for each part of a plan what is kept of all its nodes in the rows that feed its
-- list. Where there are two lists, row 0 feeds the first, which is the header type's, and each other row
-- the second.
use Rattle.std.specs.Prelude.{ℕ, zero, suc, ◌+◌, nat_eq, List, [], ◌∷◌, length, map, flat_map, Option, None, Some}
use Rattle.std.specs.List.{filter}
use Rattle.pads_value.specs.declared.row.Row.{Row}
use Rattle.pads_plan.specs.declared.part.PlanList.{PlanList}
use Rattle.pads_plan.specs.declared.part.PlanPart.{PlanPart}
use Rattle.pads_sums.specs.declared.part_sum.PartSum.{PartSum}
use Rattle.pads_sums.specs.declared.part_sum.SumList.{SumList}
use Rattle.pads_sums.specs.Nodes.{Node}
use Rattle.pads_sums.specs.Sums.{part_sum, most}
use Rattle.pads_accum.specs.Placed.{Placed, row_nodes}

-- the number of the list that a row of this number feeds, of so many lists
abbrev pub fed : ℕ → ℕ → ℕ
fed zero number = 0
fed (suc zero) number = 0
fed (suc (suc more)) zero = 0
fed (suc (suc more)) (suc number) = 1

abbrev pub rows_of : ℕ → ℕ → List Row → List Row
rows_of lists number rows = filter (λ row. nat_eq (fed lists row.number) number) rows

-- the nodes of part `number` among these
abbrev pub picked : ℕ → List Placed → List Node
picked number placed = map (λ placed. placed.node) (filter (λ placed. nat_eq placed.part number) placed)

-- the nodes of part `number` in these rows
abbrev pub nodes_of : List PlanPart → ℕ → List Row → List Node
nodes_of parts number rows = picked number (flat_map (row_nodes parts) rows)

-- where so many values of each part are tracked, or all
module _ (room : Option ℕ) where
  -- the sums of the parts from number `at` on, of one list
  abbrev pub parts_summed : List PlanPart → List Row → ℕ → List PlanPart → List PartSum
  parts_summed all rows at [] = []
  parts_summed all rows at (part ∷ parts) =
      part_sum room part.place part.form (nodes_of all at rows) ∷ parts_summed all rows (at + 1) parts

  abbrev pub list_summed : PlanList → List Row → SumList
  list_summed plan rows = record { name = plan.name; parts = parts_summed plan.parts rows 0 plan.parts }

  abbrev pub lists_summed : ℕ → ℕ → List PlanList → List Row → List SumList
  lists_summed count at [] rows = []
  lists_summed count at (plan ∷ plans) rows = list_summed plan (rows_of count at rows) ∷ lists_summed count (at + 1) plans rows

  -- the sums of rows in their order, list by list
  abbrev pub summed : List PlanList → List Row → List SumList
  summed plan rows = lists_summed (length plan) 0 plan rows

-- a summary tracks the first 1,000 values of each part
abbrev pub summary_of : List PlanList → List Row → List SumList
summary_of plan rows = summed (Some most) plan rows

-- a chunk tracks all values of each part, in the order in which they first come
abbrev pub all_of : List PlanList → List Row → List SumList
all_of plan rows = summed None plan rows
