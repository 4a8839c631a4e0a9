-- Rows of the nodes of steps, computed on the definition.
use Rattle.std.proofs.Common.{◌≡◌, refl, ap, ℕ, pos, List, [], ◌∷◌, None}
use Rattle.pads_value.specs.declared.descriptor.Class.TheVariants as class
use Rattle.pads_value.specs.declared.descriptor.Pd.{Pd, Pd-F, roll-Pd, out-roll-Pd}
use Rattle.pads_value.specs.declared.row.Row.{Row}
use Rattle.pads_value.specs.declared.value.Val.{Val, Val-F, roll-Val, out-roll-Val}
use Rattle.std.specs.List.{flat_map}
use Rattle.pads_nodes.specs.Nodes.{Node, row_nodes, nodes, below, body_of, kids_by, kids_of}
use Rattle.pads_nodes.specs.declared.step.Step.{Step}
use Rattle.pads_nodes.specs.declared.step.Step.TheVariants as step

at_body : (steps : List Step) (row : Row) → row_nodes steps row ≡ flat_map (nodes steps) (body_of row)
unfolding row_nodes
at_body steps row = refl

by_step : (next : Step) (above : Node) → below next above ≡ kids_by next above.0 (kids_of above.1)
unfolding below
by_step next above = refl

kids_roll : (layer : Pd-F Pd) → kids_of (roll-Pd layer) ≡ layer.kids
kids_roll layer = ap (λ out. out.kids) (out-roll-Pd layer)

abbrev num : ℕ → Val
num n = roll-Val (Val-F.Num (pos n))

abbrev tuple : List Val → Val
tuple parts = roll-Val (Val-F.Tuple parts)

abbrev array : List Val → Val
array elements = roll-Val (Val-F.Array elements)

abbrev branch : ℕ → Val → Val
branch number inner = roll-Val (Val-F.Branch number inner)

-- a clean descriptor of the bytes from one place to another
abbrev over : ℕ → ℕ → List Pd → Pd
over begin end kids = roll-Pd (record { nerr = 0; class = class.Ok; cause = None; span = record { begin = begin; end = end }; kids = kids })

abbrev row_of : Val → Pd → Row
row_of v pd = record { number = 0; value = v; pd = over 0 7 (pd ∷ []); next = 7 }

-- `1,2;3,4`: an array of two pairs, whose second part is the comma
abbrev pair : ℕ → ℕ → Val
pair x y = tuple (num x ∷ roll-Val Val-F.Unit ∷ num y ∷ [])

abbrev pair_at : ℕ → Pd
pair_at begin = over begin 3 (over begin 1 [] ∷ over begin 1 [] ∷ over begin 2 [] ∷ [])

abbrev pairs : Row
pairs = row_of (array (pair 1 2 ∷ pair 3 4 ∷ [])) (over 0 7 (pair_at 0 ∷ pair_at 4 ∷ []))

whole : row_nodes [] pairs ≡ (array (pair 1 2 ∷ pair 3 4 ∷ []), over 0 7 (pair_at 0 ∷ pair_at 4 ∷ [])) ∷ []
whole = simp (at_body, by_step, kids_roll, out-roll-Val) refl

each : row_nodes (step.Each ∷ step.Part 2 ∷ []) pairs ≡ (num 2, over 0 2 []) ∷ (num 4, over 4 2 []) ∷ []
each = simp (at_body, by_step, kids_roll, out-roll-Val) refl

-- elements are numbered from 0
second : row_nodes (step.Elem 1 ∷ step.Part 0 ∷ []) pairs ≡ (num 3, over 4 1 []) ∷ []
second = simp (at_body, by_step, kids_roll, out-roll-Val) refl

past-the-end : row_nodes (step.Elem 2 ∷ []) pairs ≡ []
past-the-end = simp (at_body, by_step, kids_roll, out-roll-Val) refl

-- a branch is there where it was chosen
abbrev other : Row
other = row_of (branch 1 (num 5)) (over 0 7 (over 0 1 [] ∷ []))

chosen : row_nodes (step.Arm 1 ∷ []) other ≡ (num 5, over 0 1 []) ∷ []
chosen = simp (at_body, by_step, kids_roll, out-roll-Val) refl

not-chosen : row_nodes (step.Arm 0 ∷ []) other ≡ []
not-chosen = simp (at_body, by_step, kids_roll, out-roll-Val) refl

-- a record that wasn't read has no body
abbrev unread : Row
unread = record { number = 0; value = roll-Val Val-F.Missing; pd = over 0 7 []; next = 0 }

no-body : row_nodes [] unread ≡ []
no-body = simp (at_body, by_step, kids_roll, out-roll-Val) refl
