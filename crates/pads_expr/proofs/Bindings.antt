-- A scope with one more variable, or one more value that is lent.
use Rattle.std.proofs.Common.{◌≡◌, ◌∙◌, sym, ap, ◌∷◌, reverse, ℕ, ℤ, to_z, of_z, FitsSigned, Bor}
use Rattle.std.proofs.lemmas.Int.{to_z-of_z}
use Rattle.std.specs.Int.{w128}
use Rattle.pads_value.specs.declared.value.Val.{Val}
use Rattle.pads_value.specs.declared.value.Val.TheVariants as val
use Rattle.pads_expr.specs.declared.evaluation.OpenBindings.{OpenBindings, OpenBindings-F, fold-roll-OpenBindings}
use Rattle.pads_expr.specs.declared.evaluation.OpenBindings.TheVariants as scope
use Rattle.pads_expr.specs.Scopes.{pairs_of, scope_step}
use Rattle.pads_expr.specs.Value.{Pairs}

pub pairs_of-Bind : (name : ℕ) (number : ℤ) (outer : Bor OpenBindings) → pairs_of (scope.Bind name number outer) ≡ (name, val.Num number) ∷ pairs_of outer.now
pairs_of-Bind name number outer =
    ap pairs_of (sym (scope.rolls-Bind name number outer)) ∙ fold-roll-OpenBindings Pairs scope_step (OpenBindings-F.Bind name number outer)

-- the number as it is kept in a word of 128 bits
pub bound_in : (name : ℕ) (number : ℤ) (outer : Bor OpenBindings) → FitsSigned w128 number →
    pairs_of (scope.Bind name (to_z w128 (of_z w128 number)) outer) ≡ (name, val.Num number) ∷ pairs_of outer.now
bound_in name number outer fits = rw (to_z-of_z w128 number fits) (pairs_of-Bind name number outer)

pub pairs_of-Lent : (name : ℕ) (value : Bor Val) (outer : Bor OpenBindings) → pairs_of (scope.Lent name value outer) ≡ (name, value.now) ∷ pairs_of outer.now
pairs_of-Lent name value outer =
    ap pairs_of (sym (scope.rolls-Lent name value outer)) ∙ fold-roll-OpenBindings Pairs scope_step (OpenBindings-F.Lent name value outer)

pub pairs_of-Base : (bindings : Bor Pairs) → pairs_of (scope.Base bindings) ≡ reverse bindings.now
pairs_of-Base bindings = ap pairs_of (sym (scope.rolls-Base bindings)) ∙ fold-roll-OpenBindings Pairs scope_step (OpenBindings-F.Base bindings)

pub pairs_of-Names : (bindings : Bor Pairs) → pairs_of (scope.Names bindings) ≡ reverse bindings.now
pairs_of-Names bindings = ap pairs_of (sym (scope.rolls-Names bindings)) ∙ fold-roll-OpenBindings Pairs scope_step (OpenBindings-F.Names bindings)
