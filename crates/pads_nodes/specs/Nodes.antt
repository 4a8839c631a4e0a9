-- The nodes of a row that steps lead to, in document order: all nodes below one come before those below the
-- next. A part and an element go by their numbers from 0. A branch is there only where it was chosen. A step
-- leads nowhere from a node without kids, and where the value has no such part, branch or element.
use Rattle.std.specs.Prelude.{ℕ, ◌==◌, List, [], ◌∷◌, Option, Some, None, slice_get, unwrap_or, if◌then◌else◌}
use Rattle.std.specs.List.{flat_map, zip}
use Rattle.pads_value.specs.declared.descriptor.Pd.{Pd, out-Pd}
use Rattle.pads_value.specs.declared.row.Row.{Row}
use Rattle.pads_value.specs.declared.value.Val.{Val}
use Rattle.pads_expr.specs.Parts.{parts_in, elements_in, branch_in}
use Rattle.pads_nodes.specs.declared.step.Step.{Step}
use Rattle.pads_nodes.specs.declared.step.Step.TheVariants as step

-- A node: its value and its descriptor.
abbrev pub Node : Type 0
Node = Val × Pd

abbrev pub kids_of : Pd → List Pd
kids_of pd = (out-Pd pd).kids

-- The elements of an array. Other values have none.
abbrev pub elements_of : Val → List Val
elements_of value = unwrap_or (elements_in value) []

-- The value of the branch of a number, where that was chosen.
abbrev pub arm_value : Option (ℕ × Val) → ℕ → Option Val
arm_value None number = None
arm_value (Some chosen) number = if chosen.0 == number then Some chosen.1 else None

-- The node of a value and a descriptor, where both are there.
abbrev pub node : Option Val → Option Pd → List Node
node None pd = []
node (Some value) None = []
node (Some value) (Some pd) = (value, pd) ∷ []

-- The nodes directly below a value with such kids, by a step.
abbrev pub kids_by : Step → Val → List Pd → List Node
kids_by (step.Part number) value kids = node (slice_get (parts_in value) number) (slice_get kids number)
kids_by (step.Arm number) value kids = node (arm_value (branch_in value) number) (slice_get kids 0)
kids_by (step.Elem number) value kids = node (slice_get (elements_of value) number) (slice_get kids number)
kids_by step.Each value kids = zip (elements_of value) kids

-- The nodes directly below one, by a step.
unfoldable pub below : Step → Node → List Node
below next above = kids_by next above.0 (kids_of above.1)

-- The nodes that steps lead to from a node.
abbrev pub nodes : List Step → Node → List Node
nodes [] above = above ∷ []
nodes (next ∷ steps) above = flat_map (nodes steps) (below next above)

-- The body of a record, where the record was read: the first kid of the record's node.
abbrev pub body_of : Row → List Node
body_of row = node (Some row.value) (slice_get (kids_of row.pd) 0)

-- The nodes that steps lead to from the body of a record.
unfoldable pub row_nodes : List Step → Row → List Node
row_nodes steps row = flat_map (nodes steps) (body_of row)
