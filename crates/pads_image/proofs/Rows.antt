-- Rows computed on the definitions: how many instructions two structs have as code, what they need, and with which literal code
-- begins.
use Rattle.std.proofs.Common.{◌≡◌, refl, true, List, [], ◌∷◌, length, Some, None}
use Rattle.pads_dispatch.specs.declared.base.Base.{Base}
use Rattle.pads_erase.specs.declared.skeleton.Skeleton.TheVariants as skeleton
use Rattle.pads_calc.specs.declared.decl.Shape.{Shape}
use Rattle.pads_image.specs.declared.entry.Entry.{Entry}
use Rattle.pads_image.specs.declared.op.Op.{Op}
use Rattle.pads_image.specs.declared.op.Op.TheVariants as op
use Rattle.pads_image.specs.Beginnings.{begins_with}
use Rattle.pads_image.specs.Heights.{needs, needs_from, stack_need}

abbrev shape : Shape
shape = record { head = None; each = 0 }

abbrev one_entry : List Entry
one_entry = (record { first = 0; params = []; set = true; skeleton = skeleton.List (skeleton.Leaf ∷ skeleton.Leaf ∷ []) }) ∷ []

-- of any two base types
module _ (first second : Base) where
  -- `Precord Pstruct r { Puint8 x; Pchar c; };`
  abbrev r_code : List Op
  r_code = op.Open ∷ op.Base first [] ∷ op.Part (Some 1) ∷ op.Base second [] ∷ op.Part (Some 2) ∷ op.Close 2 ∷ op.Return ∷ []

  r-length : length r_code ≡ 7
  r-length = refl

  r-begins : begins_with r_code ≡ None
  r-begins = refl

  r-needs : stack_need r_code one_entry shape ≡ 3
  unfolding needs needs_from
  r-needs = refl

  -- `Precord Pstruct pt { Puint8 x; ','; Puint8 y; };`
  abbrev pt_code : List Op
  pt_code =
      op.Open ∷ op.Base first [] ∷ op.Part (Some 1) ∷ op.ScanFrom ∷ op.Lit (44 ∷ []) ∷ op.ScanOn 4 ∷ op.Absorb ∷ op.Part None
      ∷ op.Base second [] ∷ op.Part (Some 2) ∷ op.Close 2 ∷ op.Return ∷ []

  pt-length : length pt_code ≡ 12
  pt-length = refl

  pt-needs : stack_need pt_code one_entry shape ≡ 3
  unfolding needs needs_from
  pt-needs = refl

-- `Pstruct c { '('; Pchar x; };`, of any base type
module _ (only : Base) where
  abbrev c_code : List Op
  c_code =
      op.Open ∷ op.ScanFrom ∷ op.Lit (40 ∷ []) ∷ op.Absorb ∷ op.ScanOn 2 ∷ op.Part None ∷ op.Base only [] ∷ op.Part (Some 1) ∷ op.Close 1 ∷ op.Return ∷ []

  c-begins : begins_with c_code ≡ Some (40 ∷ [])
  c-begins = refl
