-- The names that an expression gives, form by form.
use Rattle.std.proofs.Common.{◌≡◌, ◌∙◌, sym, ap, ℕ, ℤ, List, [], ◌∷◌, ◌++◌, Bool}
use Rattle.pads_rules.specs.declared.sort.Sort.{Sort}
use Rattle.pads_expr.specs.declared.expr.BinOp.{BinOp}
use Rattle.pads_resolution.specs.declared.expr.NameUse.{NameUse}
use Rattle.pads_resolution.specs.declared.expr.Expr.{Expr, Expr-F, fold-roll-Expr, roll-Expr, map-Expr}
use Rattle.pads_resolution.specs.declared.expr.Expr.TheVariants as expr
use Rattle.pads_trans.specs.Met.{Met, in_expr, expr_met}

pub met-roll : (layer : Expr-F Expr) → in_expr (roll-Expr layer) ≡ expr_met (map-Expr Expr Met in_expr layer)
unfolding in_expr
met-roll layer = fold-roll-Expr Met expr_met layer

pub met-Number : (number : ℤ) → in_expr (expr.Number number) ≡ []
met-Number number = ap in_expr (sym (expr.rolls-Number number)) ∙ met-roll (Expr-F.Number number)

pub met-Word : (text : List ℕ) → in_expr (expr.Word text) ≡ []
met-Word text = ap in_expr (sym (expr.rolls-Word text)) ∙ met-roll (Expr-F.Word text)

pub met-Truth : (truth : Bool) → in_expr (expr.Truth truth) ≡ []
met-Truth truth = ap in_expr (sym (expr.rolls-Truth truth)) ∙ met-roll (Expr-F.Truth truth)

pub met-Name : (means : NameUse) (sort : Sort) → in_expr (expr.Name means sort) ≡ []
met-Name means sort = ap in_expr (sym (expr.rolls-Name means sort)) ∙ met-roll (Expr-F.Name means sort)

pub met-Part : (whole : Expr) (number : ℕ) (sort : Sort) → in_expr (expr.Part whole number sort) ≡ in_expr whole
met-Part whole number sort = ap in_expr (sym (expr.rolls-Part whole number sort)) ∙ met-roll (Expr-F.Part whole number sort)

pub met-Branch : (whole : Expr) (number : ℕ) (sort : Sort) → in_expr (expr.Branch whole number sort) ≡ in_expr whole
met-Branch whole number sort = ap in_expr (sym (expr.rolls-Branch whole number sort)) ∙ met-roll (Expr-F.Branch whole number sort)

pub met-Index : (array : Expr) (index : Expr) (sort : Sort) → in_expr (expr.Index array index sort) ≡ in_expr array ++ in_expr index
met-Index array index sort = ap in_expr (sym (expr.rolls-Index array index sort)) ∙ met-roll (Expr-F.Index array index sort)

pub met-Pis : (value : Expr) (number : ℕ) → in_expr (expr.Pis value number) ≡ in_expr value
met-Pis value number = ap in_expr (sym (expr.rolls-Pis value number)) ∙ met-roll (Expr-F.Pis value number)

pub met-Plen : (value : Expr) → in_expr (expr.Plen value) ≡ in_expr value
met-Plen value = ap in_expr (sym (expr.rolls-Plen value)) ∙ met-roll (Expr-F.Plen value)

pub met-Minus : (operand : Expr) → in_expr (expr.Minus operand) ≡ in_expr operand
met-Minus operand = ap in_expr (sym (expr.rolls-Minus operand)) ∙ met-roll (Expr-F.Minus operand)

pub met-Not : (operand : Expr) → in_expr (expr.Not operand) ≡ in_expr operand
met-Not operand = ap in_expr (sym (expr.rolls-Not operand)) ∙ met-roll (Expr-F.Not operand)

pub met-Binary : (op : BinOp) (left : Expr) (right : Expr) → in_expr (expr.Binary op left right) ≡ in_expr left ++ in_expr right
met-Binary op left right = ap in_expr (sym (expr.rolls-Binary op left right)) ∙ met-roll (Expr-F.Binary op left right)

pub met-Pforall : (variable : List ℕ) (low : Expr) (high : Expr) (body : Expr) → in_expr (expr.Pforall variable low high body) ≡ variable ∷ in_expr low ++ in_expr high ++ in_expr body
met-Pforall variable low high body = ap in_expr (sym (expr.rolls-Pforall variable low high body)) ∙ met-roll (Expr-F.Pforall variable low high body)

pub ruleset met_rules = (
  met-Number,
  met-Word,
  met-Truth,
  met-Name,
  met-Part,
  met-Branch,
  met-Index,
  met-Pis,
  met-Plen,
  met-Minus,
  met-Not,
  met-Binary,
  met-Pforall,
)
