-- Valid code has labels that 16 bits count.
use Rattle.std.proofs.Common.{◌≡◌, refl, Bool, true, false, cond, ◌&&◌, ℕ, List, [], ◌∷◌}
use Rattle.std.specs.List.{list_all}
use Rattle.std.proofs.lemmas.Bool.{and_from, and_parts}
use Rattle.pads_dispatch.specs.Labels.{labels_fit}
use Rattle.pads_image.specs.declared.op.Op.{Op}
use Rattle.pads_image.specs.declared.op.Op.TheVariants as op
use Rattle.pads_image.specs.Variables.{all_closed, code_stands, is_return, later_params, next_params, op_stands, scope_after}
use Rattle.pads_machine.specs.Ran.{labels_stand}

op-labels : (arities : List ℕ) (scope : List ℕ) (x : Op) → op_stands arities x scope ≡ true → labels_stand x ≡ true
op-labels arities scope (op.Base base args) stands = (and_parts (labels_fit base) (all_closed args scope) stands).0
op-labels arities scope _ stands = refl

return-labels : (x : Op) → is_return x ≡ true → labels_stand x ≡ true
return-labels op.Return end = refl
return-labels (op.Base base args) end = cc
return-labels _ end = refl

one-more : (arities : List ℕ) (later : List (List ℕ)) (scope : List ℕ) (x : Op) (code : List Op)
    → ((later : List (List ℕ)) (scope : List ℕ) → code_stands arities later scope code ≡ true → list_all labels_stand code ≡ true)
    → (end : Bool) → is_return x ≡ end
    → cond end (code_stands arities (later_params later) (next_params later) code) (op_stands arities x scope && code_stands arities later (scope_after x scope) code) ≡ true
    → (labels_stand x && list_all labels_stand code) ≡ true
one-more arities later scope x code rest true is stands =
    and_from (labels_stand x) (list_all labels_stand code) (return-labels x is) (rest (later_params later) (next_params later) stands)
one-more arities later scope x code rest false is stands =
    let both = and_parts (op_stands arities x scope) (code_stands arities later (scope_after x scope) code) stands in
    and_from (labels_stand x) (list_all labels_stand code) (op-labels arities scope x both.0) (rest later (scope_after x scope) both.1)

pub labels-code : (arities : List ℕ) (later : List (List ℕ)) (scope : List ℕ) (code : List Op) → code_stands arities later scope code ≡ true → list_all labels_stand code ≡ true
unfolding code_stands
labels-code arities later scope [] stands = refl
labels-code arities later scope (x ∷ code) stands = one-more arities later scope x code (λ later scope. labels-code arities later scope code) (is_return x) refl stands
