-- The equations of the judging, form by form.
use Rattle.std.proofs.Common.{◌≡◌, ◌∙◌, sym, ap, List}
use Rattle.pads_ast.specs.declared.expr.Expr.{Expr, Expr-F, fold-roll-Expr, roll-Expr, map-Expr}
use Rattle.pads_ast.specs.declared.expr.Expr.TheVariants as expr
use Rattle.pads_ast.specs.declared.name.Name.{Name}
use Rattle.pads_rules.specs.declared.declared.Declared.{Declared}
use Rattle.pads_rules.specs.Judging.{Scope, Judged, judged, judge_form, variable}
use Rattle.pads_ast.proofs.ExprNames.{names_in-Name}

-- one layer at a time
pub judged-roll : (env : List Declared) (layer : Expr-F Expr) (scope : Scope) →
    judged env (roll-Expr layer) scope ≡ judge_form env (map-Expr Expr (Scope → Judged) (judged env) layer) scope
unfolding judged
judged-roll env layer scope = ap (λ (f : Scope → Judged). f scope) (fold-roll-Expr (Scope → Judged) (judge_form env) layer)

pub judged-Name : (env : List Declared) (name : Name) (scope : Scope) → judged env (expr.Name name) scope ≡ variable scope name
judged-Name env name scope = ap (λ e. judged env e scope) (sym (expr.rolls-Name name)) ∙ judged-roll env (Expr-F.Name name) scope

pub faults-Name : (env : List Declared) (name : Name) (scope : Scope) → (judged env (expr.Name name) scope).faults ≡ (variable scope name).faults
faults-Name env name scope = ap (λ (j : Judged). j.faults) (judged-Name env name scope)

pub sort-Name : (env : List Declared) (name : Name) (scope : Scope) → (judged env (expr.Name name) scope).sort ≡ (variable scope name).sort
sort-Name env name scope = ap (λ (j : Judged). j.sort) (judged-Name env name scope)

pub first-Name : (env : List Declared) (name : Name) (scope : Scope) → (judged env (expr.Name name) scope).first ≡ (variable scope name).first
first-Name env name scope = ap (λ (j : Judged). j.first) (judged-Name env name scope)

pub ruleset on_names = (judged-Name, faults-Name, sort-Name, first-Name, names_in-Name)
