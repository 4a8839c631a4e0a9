-- What the scope of an expression says of the expressions in it.
use Rattle.std.proofs.Common.{◌≡◌, ◌∙◌, sym, ap, ℕ, ℤ, nat_lt, List, ◌∷◌, Bool, true, ◌&&◌}
use Rattle.pads_expr.specs.declared.expr.BinOp.{BinOp}
use Rattle.pads_expr.specs.declared.expr.Expr.{Expr, Expr-F, fold-roll-Expr, roll-Expr, map-Expr}
use Rattle.pads_expr.specs.declared.expr.Expr.TheVariants as expr
use Rattle.pads_module.specs.Scopes.{InScope, is_bound, expr_in_scope, expr_step}

module _ (names : ℕ) where
  expr-roll : (layer : Expr-F Expr) (scope : List ℕ) → expr_in_scope names (roll-Expr layer) scope ≡ expr_step names (map-Expr Expr InScope (expr_in_scope names) layer) scope
  unfolding expr_in_scope
  expr-roll layer scope = ap (λ (f : InScope). f scope) (fold-roll-Expr InScope (expr_step names) layer)

  pub scope-Num : (number : ℤ) (scope : List ℕ) → expr_in_scope names (expr.Num number) scope ≡ true
  scope-Num number scope = ap (λ e. expr_in_scope names e scope) (sym (expr.rolls-Num number)) ∙ expr-roll (Expr-F.Num number) scope

  pub scope-Text : (text : List ℕ) (scope : List ℕ) → expr_in_scope names (expr.Text text) scope ≡ true
  scope-Text text scope = ap (λ e. expr_in_scope names e scope) (sym (expr.rolls-Text text)) ∙ expr-roll (Expr-F.Text text) scope

  pub scope-Truth : (truth : Bool) (scope : List ℕ) → expr_in_scope names (expr.Truth truth) scope ≡ true
  scope-Truth truth scope = ap (λ e. expr_in_scope names e scope) (sym (expr.rolls-Truth truth)) ∙ expr-roll (Expr-F.Truth truth) scope

  pub scope-Var : (name : ℕ) (scope : List ℕ) → expr_in_scope names (expr.Var name) scope ≡ is_bound name scope
  scope-Var name scope = ap (λ e. expr_in_scope names e scope) (sym (expr.rolls-Var name)) ∙ expr-roll (Expr-F.Var name) scope

  pub scope-Part : (whole : Expr) (number : ℕ) (scope : List ℕ) → expr_in_scope names (expr.Part whole number) scope ≡ expr_in_scope names whole scope
  scope-Part whole number scope = ap (λ e. expr_in_scope names e scope) (sym (expr.rolls-Part whole number)) ∙ expr-roll (Expr-F.Part whole number) scope

  pub scope-Arm : (whole : Expr) (number : ℕ) (scope : List ℕ) → expr_in_scope names (expr.Arm whole number) scope ≡ expr_in_scope names whole scope
  scope-Arm whole number scope = ap (λ e. expr_in_scope names e scope) (sym (expr.rolls-Arm whole number)) ∙ expr-roll (Expr-F.Arm whole number) scope

  pub scope-Elem : (whole : Expr) (index : Expr) (scope : List ℕ) → expr_in_scope names (expr.Elem whole index) scope ≡ (expr_in_scope names whole scope && expr_in_scope names index scope)
  scope-Elem whole index scope = ap (λ e. expr_in_scope names e scope) (sym (expr.rolls-Elem whole index)) ∙ expr-roll (Expr-F.Elem whole index) scope

  pub scope-IsArm : (whole : Expr) (number : ℕ) (scope : List ℕ) → expr_in_scope names (expr.IsArm whole number) scope ≡ expr_in_scope names whole scope
  scope-IsArm whole number scope = ap (λ e. expr_in_scope names e scope) (sym (expr.rolls-IsArm whole number)) ∙ expr-roll (Expr-F.IsArm whole number) scope

  pub scope-Len : (whole : Expr) (scope : List ℕ) → expr_in_scope names (expr.Len whole) scope ≡ expr_in_scope names whole scope
  scope-Len whole scope = ap (λ e. expr_in_scope names e scope) (sym (expr.rolls-Len whole)) ∙ expr-roll (Expr-F.Len whole) scope

  pub scope-Neg : (operand : Expr) (scope : List ℕ) → expr_in_scope names (expr.Neg operand) scope ≡ expr_in_scope names operand scope
  scope-Neg operand scope = ap (λ e. expr_in_scope names e scope) (sym (expr.rolls-Neg operand)) ∙ expr-roll (Expr-F.Neg operand) scope

  pub scope-Not : (operand : Expr) (scope : List ℕ) → expr_in_scope names (expr.Not operand) scope ≡ expr_in_scope names operand scope
  scope-Not operand scope = ap (λ e. expr_in_scope names e scope) (sym (expr.rolls-Not operand)) ∙ expr-roll (Expr-F.Not operand) scope

  pub scope-Bin : (op : BinOp) (left : Expr) (right : Expr) (scope : List ℕ) → expr_in_scope names (expr.Bin op left right) scope ≡ (expr_in_scope names left scope && expr_in_scope names right scope)
  scope-Bin op left right scope = ap (λ e. expr_in_scope names e scope) (sym (expr.rolls-Bin op left right)) ∙ expr-roll (Expr-F.Bin op left right) scope

  pub scope-Forall : (name : ℕ) (first : Expr) (last : Expr) (body : Expr) (scope : List ℕ) → expr_in_scope names (expr.Forall name first last body) scope ≡ (nat_lt name names && expr_in_scope names first scope && expr_in_scope names last scope && expr_in_scope names body (name ∷ scope))
  scope-Forall name first last body scope = ap (λ e. expr_in_scope names e scope) (sym (expr.rolls-Forall name first last body)) ∙ expr-roll (Expr-F.Forall name first last body) scope

pub ruleset expr_rules = (
  scope-Num,
  scope-Text,
  scope-Truth,
  scope-Var,
  scope-Part,
  scope-Arm,
  scope-Elem,
  scope-IsArm,
  scope-Len,
  scope-Neg,
  scope-Not,
  scope-Bin,
  scope-Forall,
)
