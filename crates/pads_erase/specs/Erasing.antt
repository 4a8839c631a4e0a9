-- Erasing: each number, text and label that stands at a leaf of a declaration's skeleton becomes missing
-- where the declaration keeps no values of its own; all else stays. Where a skeleton refers to another
-- declaration, that one's skeleton and its own flag count.
use Rattle.std.specs.Prelude.{ℕ, zero, suc, Bool, true, false, List, [], ◌∷◌, map, Option, Some, None, slice_get}
use Rattle.std.specs.List.{list_all}
use Rattle.pads_value.specs.declared.value.Val.{Val, Val-F, out-Val}
use Rattle.pads_value.specs.declared.value.Val.TheVariants as val
use Rattle.pads_erase.specs.declared.skeleton.Keeping.{Keeping}
use Rattle.pads_erase.specs.declared.skeleton.Skeleton.{Skeleton, Skeleton-F, fold-Skeleton}

-- what is left of a value
abbrev pub Eraser : Type 0
Eraser = Val → Val

-- a number, a text or a label is missing; what stands for no data, and a value of another shape, stays
abbrev pub without_data : Val → Val-F Val → Val
without_data v Val-F.Unit = v
without_data v Val-F.Missing = v
without_data v (Val-F.Num number) = val.Missing
without_data v (Val-F.Text text) = val.Missing
without_data v (Val-F.Enum label) = val.Missing
without_data v (Val-F.Tuple parts) = v
without_data v (Val-F.Branch number inner) = v
without_data v (Val-F.Array elements) = v

-- a leaf, whose value is kept or not
abbrev pub at_leaf : Bool → Eraser
at_leaf true v = v
at_leaf false v = without_data v (out-Val v)

-- each value as its part has it
abbrev pub each_part : List Eraser → List Val → List Val
each_part [] values = values
each_part (part ∷ parts) [] = []
each_part (part ∷ parts) (v ∷ values) = part v ∷ each_part parts values

abbrev pub at_list : List Eraser → Val → Val-F Val → Val
at_list parts v Val-F.Unit = v
at_list parts v Val-F.Missing = v
at_list parts v (Val-F.Num number) = v
at_list parts v (Val-F.Text text) = v
at_list parts v (Val-F.Enum label) = v
at_list parts v (Val-F.Tuple values) = val.Tuple (each_part parts values)
at_list parts v (Val-F.Branch number inner) = v
at_list parts v (Val-F.Array elements) = v

-- the value of the branch that was taken
abbrev pub by_arm : Option Eraser → Eraser
by_arm None v = v
by_arm (Some arm) v = arm v

abbrev pub at_arms : List Eraser → Val → Val-F Val → Val
at_arms arms v Val-F.Unit = v
at_arms arms v Val-F.Missing = v
at_arms arms v (Val-F.Num number) = v
at_arms arms v (Val-F.Text text) = v
at_arms arms v (Val-F.Enum label) = v
at_arms arms v (Val-F.Tuple values) = v
at_arms arms v (Val-F.Branch number inner) = val.Branch number (by_arm (slice_get arms number) inner)
at_arms arms v (Val-F.Array elements) = v

abbrev pub at_each : Eraser → Val → Val-F Val → Val
at_each element v Val-F.Unit = v
at_each element v Val-F.Missing = v
at_each element v (Val-F.Num number) = v
at_each element v (Val-F.Text text) = v
at_each element v (Val-F.Enum label) = v
at_each element v (Val-F.Tuple values) = v
at_each element v (Val-F.Branch number inner) = v
at_each element v (Val-F.Array elements) = val.Array (map element elements)

-- in a declaration whose values are kept or not, where references to declarations erase so
module _ (set : Bool) (call : ℕ → Eraser) where
  -- one equation for each form
  abbrev pub skeleton_step : Skeleton-F Eraser → Eraser
  skeleton_step Skeleton-F.Leaf v = at_leaf set v
  skeleton_step Skeleton-F.Nothing v = v
  skeleton_step (Skeleton-F.List parts) v = at_list parts v (out-Val v)
  skeleton_step (Skeleton-F.Arms arms) v = at_arms arms v (out-Val v)
  skeleton_step (Skeleton-F.Each element) v = at_each element v (out-Val v)
  skeleton_step (Skeleton-F.Ref number) v = call number v

unfoldable pub erase_by : Bool → (ℕ → Eraser) → Skeleton → Eraser
erase_by set call = fold-Skeleton Eraser (skeleton_step set call)

abbrev pub by_keeping : (ℕ → Eraser) → Option Keeping → Eraser
by_keeping call None v = v
by_keeping call (Some keeping) v = erase_by keeping.set call keeping.skeleton v

-- a value of a declaration, by what all declarations keep, where references may be nested so deep; below,
-- one less
unfoldable pub erased : List Keeping → ℕ → ℕ → Eraser
erased keepings zero number v = v
erased keepings (suc depth) number v = by_keeping (erased keepings depth) (slice_get keepings number) v

-- a value of a skeleton in a declaration whose values are kept or not
abbrev pub erase : List Keeping → ℕ → Bool → Skeleton → Eraser
erase keepings depth set = erase_by set (erased keepings depth)

-- each declaration keeps its values
abbrev pub keeps_all : List Keeping → Bool
keeps_all keepings = list_all (λ keeping. keeping.set) keepings
