-- Which names a scope binds.
use Rattle.std.proofs.Common.{◌≡◌, ◌∙◌, sym, ap, refl, ℕ, List, [], ◌∷◌, Bor, Option, None, Some, Bool, true, false, ◌||◌, nat_eq, zero, suc, ◌+◌, take, length, ◌<◌, get_or, arith, add-one}
use Rattle.std.specs.List.{list_any}
use Rattle.pads_calc.specs.declared.term.Part.{Part}
use Rattle.pads_module.specs.declared.scope.BoundNames.{BoundNames, BoundNames-F, fold-BoundNames, fold-roll-BoundNames}
use Rattle.pads_module.specs.declared.scope.BoundNames.TheVariants as scope
use Rattle.pads_module.specs.Bound.{parts_names, has_name, bound_names, bound_step}
use Rattle.pads_module.specs.Scopes.{is_bound, bind_name}

or-swap : (a b c : Bool) → (a || (b || c)) ≡ ((b || a) || c)
or-swap true true c = refl
or-swap true false c = refl
or-swap false true c = refl
or-swap false false c = refl

bound-bind : (name : ℕ) (bound : Option ℕ) (scope : List ℕ) → is_bound name (bind_name bound scope) ≡ (has_name name bound || is_bound name scope)
bound-bind name None scope = refl
bound-bind name (Some bound) scope = refl

pub bound-parts : (name : ℕ) (parts : List Part) (scope : List ℕ) →
    is_bound name (parts_names parts scope) ≡ (list_any (λ part. has_name name part.name) parts || is_bound name scope)
bound-parts name [] scope = refl
bound-parts name (part ∷ parts) scope =
    bound-parts name parts (bind_name part.name scope)
    ∙ ap (λ b. list_any (λ part. has_name name part.name) parts || b) (bound-bind name part.name scope)
    ∙ or-swap (list_any (λ part. has_name name part.name) parts) (has_name name part.name) (is_bound name scope)

pub scope-Parts : (parts : Bor (List Part)) (outer : Bor BoundNames) → bound_names (scope.Parts parts outer) ≡ parts_names parts.now (bound_names outer.now)
scope-Parts parts outer = ap bound_names (sym (scope.rolls-Parts parts outer)) ∙ fold-roll-BoundNames (List ℕ) bound_step (BoundNames-F.Parts parts outer)

pub scope-Bind : (name : ℕ) (outer : Bor BoundNames) → bound_names (scope.Bind name outer) ≡ name ∷ bound_names outer.now
scope-Bind name outer = ap bound_names (sym (scope.rolls-Bind name outer)) ∙ fold-roll-BoundNames (List ℕ) bound_step (BoundNames-F.Bind name outer)

pub ruleset bound_rules = (scope-Bind)

pub names-more' : (parts : List Part) (n : ℕ) (part : Part) (scope : List ℕ) → n < length parts → part ≡ get_or parts n part →
    parts_names (take (suc n) parts) scope ≡ bind_name part.name (parts_names (take n parts) scope)
names-more' [] n part scope more here = absurd (omega arith)
names-more' (first ∷ parts) zero part scope more here = ap (λ (p : Part). bind_name p.name scope) (sym here)
names-more' (first ∷ parts) (suc n) part scope more here = names-more' parts n part (bind_name first.name scope) (omega arith) here

pub names-more : (parts : List Part) (n : ℕ) (part : Part) (scope : List ℕ) → n < length parts → part ≡ get_or parts n part →
    parts_names (take (n + 1) parts) scope ≡ bind_name part.name (parts_names (take n parts) scope)
names-more parts n part scope more here = rw (add-one) (names-more' parts n part scope more here)
