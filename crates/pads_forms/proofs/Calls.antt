-- Where calls lead, one call after another.
use Rattle.std.proofs.Common.{◌≡◌, refl, ℕ, zero, suc, ◌-◌, ◌<◌, Bool, List, Some, None, slice_get, arith}
use Rattle.pads_calc.specs.declared.decl.Decl.{Decl}
use Rattle.pads_calc.specs.declared.term.Term.{Term, out-Term}
use Rattle.pads_forms.specs.Forms.{called, through, form_from}

pub form_here : (decls : List Decl) (absorbs : Bool) (depth : ℕ) (t : Term) → called (out-Term t) ≡ None
    → form_from decls absorbs depth t ≡ Some (record { depth = depth; term = t })
unfolding form_from
form_here decls absorbs zero t here = rw here refl
form_here decls absorbs (suc depth) t here = rw here refl

pub form_too_deep : (decls : List Decl) (absorbs : Bool) (depth : ℕ) (t : Term) (number : ℕ) → called (out-Term t) ≡ Some number → depth ≡ 0
    → form_from decls absorbs depth t ≡ None
unfolding form_from
form_too_deep decls absorbs zero t number call least = rw call refl
form_too_deep decls absorbs (suc depth) t number call least = absurd (omega (arith, least))

pub form_called : (decls : List Decl) (absorbs : Bool) (depth : ℕ) (t : Term) (number : ℕ) (decl : Decl)
    → called (out-Term t) ≡ Some number → 0 < depth → slice_get decls number ≡ Some decl
    → form_from decls absorbs depth t ≡ form_from decls absorbs (depth - 1) (through absorbs decl.body)
unfolding form_from
form_called decls absorbs zero t number decl call more there = absurd (omega (arith, more))
form_called decls absorbs (suc depth) t number decl call more there =
    let less : suc depth - 1 ≡ depth = omega arith in rw (call, less, there) refl

pub form_nowhere : (decls : List Decl) (absorbs : Bool) (depth : ℕ) (t : Term) (number : ℕ)
    → called (out-Term t) ≡ Some number → 0 < depth → slice_get decls number ≡ None
    → form_from decls absorbs depth t ≡ None
unfolding form_from
form_nowhere decls absorbs zero t number call more nowhere = absurd (omega (arith, more))
form_nowhere decls absorbs (suc depth) t number call more nowhere = rw (call, nowhere) refl
