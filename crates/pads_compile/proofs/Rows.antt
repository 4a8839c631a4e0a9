-- Rows computed on the definitions: what two structs are as code.
use Rattle.std.proofs.Common.{◌≡◌, true, ℕ, List, [], ◌∷◌, Some, None}
use Rattle.pads_dispatch.specs.declared.base.Base.{Base}
use Rattle.pads_calc.specs.declared.decl.Decl.{Decl}
use Rattle.pads_calc.specs.declared.term.Part.{Part}
use Rattle.pads_calc.specs.declared.term.Term.{Term}
use Rattle.pads_calc.specs.declared.term.Term.TheVariants as term
use Rattle.pads_image.specs.declared.op.Op.TheVariants as op
use Rattle.pads_image.specs.Code.{code_of, length_of}
use Rattle.pads_image.proofs.Layouts.{layout_rules}

abbrev declared : List Part → List Decl
declared parts = (record { name = 0; params = []; body = term.Struct parts; set = true }) ∷ []

abbrev named : ℕ → Term → Part
named name t = record { name = Some name; term = t }

-- of any two base types
module _ (first second : Base) where
  -- `Precord Pstruct r { Puint8 x; Pchar c; };`
  abbrev r_parts : List Part
  r_parts = named 1 (term.Base first []) ∷ named 2 (term.Base second []) ∷ []

  r-length : length_of (declared r_parts) ≡ 7
  r-length = simp layout_rules

  r-code : code_of (declared r_parts)
      ≡ op.Open ∷ op.Base first [] ∷ op.Part (Some 1) ∷ op.Base second [] ∷ op.Part (Some 2) ∷ op.Close 2 ∷ op.Return ∷ []
  r-code = simp layout_rules

  -- `Precord Pstruct pt { Puint8 x; ','; Puint8 y; };`
  abbrev pt_parts : List Part
  pt_parts =
      named 1 (term.Base first [])
      ∷ (record { name = None; term = term.Absorb (term.Scan (term.Lit (44 ∷ []))) })
      ∷ named 2 (term.Base second [])
      ∷ []

  pt-length : length_of (declared pt_parts) ≡ 12
  pt-length = simp layout_rules

  pt-code : code_of (declared pt_parts)
      ≡ op.Open ∷ op.Base first [] ∷ op.Part (Some 1) ∷ op.ScanFrom ∷ op.Lit (44 ∷ []) ∷ op.ScanOn 4 ∷ op.Absorb ∷ op.Part None
      ∷ op.Base second [] ∷ op.Part (Some 2) ∷ op.Close 2 ∷ op.Return ∷ []
  pt-code = simp layout_rules
