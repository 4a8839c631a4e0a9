-- Rows of masking, computed on the definitions: a record type `r` with a number under a constraint, a value of
-- the type `t` under one, and a number computed from it.
use Rattle.std.proofs.Common.{◌≡◌, ap, refl, ℕ, pos, Bool, true, false, List, [], ◌∷◌, codes, Some, None}
use Rattle.pads_code.specs.declared.Coding.TheVariants as coding
use Rattle.pads_dispatch.specs.declared.base.Base.TheVariants as base
use Rattle.pads_int.specs.declared.kind.Kind.TheVariants as kind
use Rattle.pads_expr.specs.declared.expr.Expr.{Expr}
use Rattle.pads_expr.specs.declared.expr.Expr.TheVariants as expr
use Rattle.pads_calc.specs.declared.decl.Decl.{Decl}
use Rattle.pads_calc.specs.declared.term.ComputedForm.TheVariants as form
use Rattle.pads_calc.specs.declared.term.Part.{Part}
use Rattle.pads_calc.specs.declared.term.Term.{Term}
use Rattle.pads_calc.specs.declared.term.Term.TheVariants as term
use Rattle.pads_module.specs.Modules.{Contents}
use Rattle.pads_calc.specs.Skeletons.{skeleton_of}
use Rattle.pads_module.proofs.SkeletonRolls.{skeleton_rules}
use Rattle.pads_erase.specs.declared.skeleton.Skeleton.TheVariants as skeleton
use Rattle.pads_erase.specs.declared.mask.Mask.{Mask}
use Rattle.pads_erase.specs.declared.mask.NamedMode.{NamedMode}
use Rattle.pads_erase.specs.declared.mode.Mode.{Mode}
use Rattle.pads_erase.specs.declared.mode.Mode.TheVariants as mode
use Rattle.pads_erase.specs.Modes.{mode_for}
use Rattle.pads_mask.specs.Masks.{fault_of, masked_decl}
use Rattle.pads_mask.specs.Unguarded.{unguarded}
use Rattle.pads_mask.proofs.Rolls.{unguarded_rules}

abbrev number : Term
number = term.Base (base.Int kind.U8 coding.Ascii) []

abbrev condition : Expr
condition = expr.Truth false

abbrev part : Term → Part
part t = record { name = Some 1; term = t }

abbrev computed : Term
computed = term.Compute (expr.Num (pos 7)) form.Text

abbrev body : Term
body = term.Struct (part (term.Guard number 1 condition) ∷ part (term.Guard (term.Call 1 []) 1 condition) ∷ part computed ∷ [])

abbrev left : Term
left = term.Struct (part number ∷ part (term.Call 1 []) ∷ part computed ∷ [])

-- The constraints of the body's own are gone. The call stays as it is.
constraints_row : unguarded body ≡ left
constraints_row = simp unguarded_rules

-- a constraint under a constraint
twice_row : unguarded (term.Guard (term.Scan (term.Guard number 1 condition)) 1 condition) ≡ term.Scan number
twice_row = simp unguarded_rules

-- where values of its own stand: the number and what is computed. The other is the called one's.
skeleton_row : skeleton_of body ≡ skeleton.List (skeleton.Leaf ∷ skeleton.Ref 1 ∷ skeleton.Leaf ∷ [])
skeleton_row = simp skeleton_rules

abbrev declared : Term → Bool → Decl
declared body set = record { name = 0; params = []; body = body; set = set }

set_row : masked_decl mode.Set (declared body true) ≡ declared left true
set_row = ap (λ body. declared body true) constraints_row

check_row : masked_decl mode.Check (declared body true) ≡ declared body false
check_row = refl

none_row : masked_decl mode.None (declared body true) ≡ declared left false
none_row = ap (λ body. declared body false) constraints_row

-- what wasn't kept before isn't either
unset_row : masked_decl mode.Both (declared body false) ≡ declared body false
unset_row = refl

abbrev item : List ℕ → Mode → NamedMode
item name mode = record { name = name; mode = mode }

abbrev of_items : List NamedMode → Mask
of_items named = record { all = mode.Both; named = named }

-- Of equal names the first counts; all others have the mode of all.
first_row : mode_for (of_items (item (codes "r") mode.Set ∷ item (codes "r") mode.None ∷ [])) (codes "r") ≡ mode.Set
first_row = refl

other_row : mode_for (of_items (item (codes "r") mode.Set ∷ [])) (codes "rr") ≡ mode.Both
other_row = refl

abbrev made : Contents
made = record { decls = declared body true ∷ []; names = codes "r" ∷ codes "x" ∷ []; shape = record { head = None; each = 0 }; scan = 0 }

-- Items are counted from 1, and a name that no declaration has is none of a declaration's.
fault_row : fault_of made (of_items (item (codes "r") mode.Set ∷ item (codes "x") mode.None ∷ item (codes "y") mode.None ∷ [])) ≡ Some 2
fault_row = refl

named_row : fault_of made (of_items (item (codes "r") mode.Set ∷ item (codes "r") mode.None ∷ [])) ≡ None
named_row = refl
