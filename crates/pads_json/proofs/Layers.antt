-- A value's JSON, layer by layer.
use Rattle.std.proofs.Common.{◌≡◌, ap, ℕ, false, List}
use Rattle.pads_value.specs.declared.value.Val.{Val, fold_out-Val}
use Rattle.pads_calc.specs.declared.decl.Decl.{Decl}
use Rattle.pads_calc.specs.declared.term.Term.{Term}
use Rattle.pads_forms.specs.Forms.{form_at}
use Rattle.pads_json.specs.Values.{Shown, shown, value_step, in_form, layer}

pub shown_out : (decls : List Decl) (names : List (List ℕ)) (v : Val) (depth : ℕ) (t : Term)
    → shown decls names v depth t ≡ in_form decls names (form_at decls false depth t) (layer decls names v)
unfolding shown
shown_out decls names v depth t = ap (λ (f : Shown). f depth t) (fold_out-Val Shown (value_step decls names) v)
