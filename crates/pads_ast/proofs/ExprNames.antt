-- The names of expressions, form by form.
use Rattle.std.proofs.Common.{◌≡◌, ◌∙◌, sym, ap, ℕ, Bool, [], ◌∷◌, ◌++◌}
use Rattle.pads_ast.specs.declared.expr.Expr.{Expr, Expr-F, fold-roll-Expr, roll-Expr, map-Expr}
use Rattle.pads_ast.specs.declared.expr.Expr.TheVariants as expr
use Rattle.pads_ast.specs.declared.expr.UnaryOperator.{UnaryOperator}
use Rattle.pads_ast.specs.declared.name.Name.{Name}
use Rattle.pads_ast.specs.declared.name.Word.{Word}
use Rattle.pads_ast.specs.NameTokens.{Names, names_in_expr, names_in_form}

pub names_in_expr-roll : (layer : Expr-F Expr) → names_in_expr (roll-Expr layer) ≡ names_in_form (map-Expr Expr Names names_in_expr layer)
unfolding names_in_expr
names_in_expr-roll layer = fold-roll-Expr Names names_in_form layer

pub names_as : (layer : Expr-F Expr) (e : Expr) → roll-Expr layer ≡ e → names_in_expr e ≡ names_in_form (map-Expr Expr Names names_in_expr layer)
names_as layer e rolls = ap names_in_expr (sym rolls) ∙ names_in_expr-roll layer

pub names_in-Unary : (operator : UnaryOperator) (at : ℕ) (operand : Expr) → names_in_expr (expr.Unary operator at operand) ≡ names_in_expr operand
names_in-Unary operator at operand = names_as (Expr-F.Unary operator at operand) _ (expr.rolls-Unary operator at operand)

pub names_in-Number : (value at : ℕ) → names_in_expr (expr.Number value at) ≡ []
names_in-Number value at = names_as (Expr-F.Number value at) _ (expr.rolls-Number value at)

pub names_in-Word : (word : Word) → names_in_expr (expr.Word word) ≡ []
names_in-Word word = names_as (Expr-F.Word word) _ (expr.rolls-Word word)

pub names_in-Truth : (value : Bool) (at : ℕ) → names_in_expr (expr.Truth value at) ≡ []
names_in-Truth value at = names_as (Expr-F.Truth value at) _ (expr.rolls-Truth value at)

pub names_in-Name : (name : Name) → names_in_expr (expr.Name name) ≡ name.text ∷ []
names_in-Name name = names_as (Expr-F.Name name) _ (expr.rolls-Name name)

pub names_in-Paren : (at : ℕ) (inner : Expr) → names_in_expr (expr.Paren at inner) ≡ names_in_expr inner
names_in-Paren at inner = names_as (Expr-F.Paren at inner) _ (expr.rolls-Paren at inner)

pub names_in-Pis : (at : ℕ) (value : Expr) (name : Name) → names_in_expr (expr.Pis at value name) ≡ names_in_expr value ++ name.text ∷ []
names_in-Pis at value name = names_as (Expr-F.Pis at value name) _ (expr.rolls-Pis at value name)

pub names_in-Plen : (at : ℕ) (value : Expr) → names_in_expr (expr.Plen at value) ≡ names_in_expr value
names_in-Plen at value = names_as (Expr-F.Plen at value) _ (expr.rolls-Plen at value)

pub names_in-Pforall : (at : ℕ) (name : Name) (low high body : Expr) →
    names_in_expr (expr.Pforall at name low high body) ≡ name.text ∷ (names_in_expr low ++ names_in_expr high ++ names_in_expr body)
names_in-Pforall at name low high body = names_as (Expr-F.Pforall at name low high body) _ (expr.rolls-Pforall at name low high body)
