-- The equations of the judging at small expressions, for rows.
use Rattle.std.proofs.Common.{◌≡◌, ◌∙◌, sym, ap, ℕ, Bool, List, ◌++◌, flat_map}
use Rattle.pads_ast.specs.declared.expr.Expr.{Expr, Expr-F, roll-Expr, map-Expr}
use Rattle.pads_ast.specs.declared.expr.Expr.TheShapes.{former-Expr-Post-1}
use Rattle.pads_ast.specs.declared.expr.Expr.TheVariants as expr
use Rattle.pads_ast.specs.declared.expr.Step.{Step}
use Rattle.pads_ast.specs.declared.name.Name.{Name}
use Rattle.pads_rules.specs.declared.declared.Declared.{Declared}
use Rattle.pads_rules.specs.Judging.{Scope, Judged, judged, judge_form, leaf, posted, pis}
use Rattle.pads_ast.specs.NameTokens.{Names, names_in_expr, names_in_step}
use Rattle.pads_rules.specs.Sorts.{num, truth}
use Rattle.pads_rules.proofs.Judgements.{judged-roll}
use Rattle.pads_ast.proofs.ExprNames.{names_as, names_in-Number, names_in-Truth, names_in-Pis}

judged_as : (env : List Declared) (layer : Expr-F Expr) (scope : Scope) (e : Expr) → roll-Expr layer ≡ e →
    judged env e scope ≡ judge_form env (map-Expr Expr (Scope → Judged) (judged env) layer) scope
judged_as env layer scope e rolls = ap (λ x. judged env x scope) (sym rolls) ∙ judged-roll env layer scope

pub judged-Number : (env : List Declared) (scope : Scope) (value at : ℕ) → judged env (expr.Number value at) scope ≡ leaf at num
judged-Number env scope value at = judged_as env (Expr-F.Number value at) scope _ (expr.rolls-Number value at)

pub faults-Number : (env : List Declared) (scope : Scope) (value at : ℕ) → (judged env (expr.Number value at) scope).faults ≡ (leaf at num).faults
faults-Number env scope value at = ap (λ (j : Judged). j.faults) (judged-Number env scope value at)

pub sort-Number : (env : List Declared) (scope : Scope) (value at : ℕ) → (judged env (expr.Number value at) scope).sort ≡ (leaf at num).sort
sort-Number env scope value at = ap (λ (j : Judged). j.sort) (judged-Number env scope value at)

pub first-Number : (env : List Declared) (scope : Scope) (value at : ℕ) → (judged env (expr.Number value at) scope).first ≡ (leaf at num).first
first-Number env scope value at = ap (λ (j : Judged). j.first) (judged-Number env scope value at)

pub judged-Truth : (env : List Declared) (scope : Scope) (value : Bool) (at : ℕ) → judged env (expr.Truth value at) scope ≡ leaf at truth
judged-Truth env scope value at = judged_as env (Expr-F.Truth value at) scope _ (expr.rolls-Truth value at)

pub faults-Truth : (env : List Declared) (scope : Scope) (value : Bool) (at : ℕ) → (judged env (expr.Truth value at) scope).faults ≡ (leaf at truth).faults
faults-Truth env scope value at = ap (λ (j : Judged). j.faults) (judged-Truth env scope value at)

pub sort-Truth : (env : List Declared) (scope : Scope) (value : Bool) (at : ℕ) → (judged env (expr.Truth value at) scope).sort ≡ (leaf at truth).sort
sort-Truth env scope value at = ap (λ (j : Judged). j.sort) (judged-Truth env scope value at)

pub first-Truth : (env : List Declared) (scope : Scope) (value : Bool) (at : ℕ) → (judged env (expr.Truth value at) scope).first ≡ (leaf at truth).first
first-Truth env scope value at = ap (λ (j : Judged). j.first) (judged-Truth env scope value at)

pub judged-Post : (env : List Declared) (scope : Scope) (base : Expr) (steps : List (Step Expr)) → judged env (expr.Post base steps) scope ≡ posted env (judged env base scope) ((former-Expr-Post-1).map Expr (Scope → Judged) (judged env) steps) scope
judged-Post env scope base steps = judged_as env (Expr-F.Post base steps) scope _ (expr.rolls-Post base steps)

pub names_in-Post : (base : Expr) (steps : List (Step Expr)) → names_in_expr (expr.Post base steps) ≡ names_in_expr base ++ flat_map names_in_step ((former-Expr-Post-1).map Expr Names names_in_expr steps)
names_in-Post base steps = names_as (Expr-F.Post base steps) _ (expr.rolls-Post base steps)

pub faults-Post : (env : List Declared) (scope : Scope) (base : Expr) (steps : List (Step Expr)) → (judged env (expr.Post base steps) scope).faults ≡ (posted env (judged env base scope) ((former-Expr-Post-1).map Expr (Scope → Judged) (judged env) steps) scope).faults
faults-Post env scope base steps = ap (λ (j : Judged). j.faults) (judged-Post env scope base steps)

pub sort-Post : (env : List Declared) (scope : Scope) (base : Expr) (steps : List (Step Expr)) → (judged env (expr.Post base steps) scope).sort ≡ (posted env (judged env base scope) ((former-Expr-Post-1).map Expr (Scope → Judged) (judged env) steps) scope).sort
sort-Post env scope base steps = ap (λ (j : Judged). j.sort) (judged-Post env scope base steps)

pub first-Post : (env : List Declared) (scope : Scope) (base : Expr) (steps : List (Step Expr)) → (judged env (expr.Post base steps) scope).first ≡ (posted env (judged env base scope) ((former-Expr-Post-1).map Expr (Scope → Judged) (judged env) steps) scope).first
first-Post env scope base steps = ap (λ (j : Judged). j.first) (judged-Post env scope base steps)

pub judged-Pis : (env : List Declared) (scope : Scope) (at : ℕ) (value : Expr) (name : Name) → judged env (expr.Pis at value name) scope ≡ pis env at (judged env value scope) name
judged-Pis env scope at value name = judged_as env (Expr-F.Pis at value name) scope _ (expr.rolls-Pis at value name)

pub faults-Pis : (env : List Declared) (scope : Scope) (at : ℕ) (value : Expr) (name : Name) → (judged env (expr.Pis at value name) scope).faults ≡ (pis env at (judged env value scope) name).faults
faults-Pis env scope at value name = ap (λ (j : Judged). j.faults) (judged-Pis env scope at value name)

pub sort-Pis : (env : List Declared) (scope : Scope) (at : ℕ) (value : Expr) (name : Name) → (judged env (expr.Pis at value name) scope).sort ≡ (pis env at (judged env value scope) name).sort
sort-Pis env scope at value name = ap (λ (j : Judged). j.sort) (judged-Pis env scope at value name)

pub first-Pis : (env : List Declared) (scope : Scope) (at : ℕ) (value : Expr) (name : Name) → (judged env (expr.Pis at value name) scope).first ≡ (pis env at (judged env value scope) name).first
first-Pis env scope at value name = ap (λ (j : Judged). j.first) (judged-Pis env scope at value name)

pub ruleset small = (judged-Number, names_in-Number, faults-Number, sort-Number, first-Number, judged-Truth, names_in-Truth, faults-Truth, sort-Truth, first-Truth, judged-Post, names_in-Post, faults-Post, sort-Post, first-Post, judged-Pis, names_in-Pis, faults-Pis, sort-Pis, first-Pis)
