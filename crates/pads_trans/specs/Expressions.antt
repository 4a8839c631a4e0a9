-- The translation of expressions.
--
--   a variable           the variable of its name
--   elts, length         the variable `@`, the length of it
--   a field in `Pwhere`  the part of `@` of its number
--   .name                a part of a struct; a branch of a union or an optional
--   a[i], Plen, Pis, Pforall and operators stay what they are
use Rattle.std.specs.Prelude.{List, Option, option_map}
use Rattle.pads_expr.specs.declared.expr.Expr.{Expr}
use Rattle.pads_expr.specs.declared.expr.Expr.TheVariants as expr
use Rattle.pads_resolution.specs.declared.expr.Expr.{Expr as Tree, Expr-F as Tree-F, fold-Expr as fold-Tree}
use Rattle.pads_resolution.specs.declared.expr.NameUse.{NameUse}
use Rattle.pads_resolution.specs.declared.expr.NameUse.TheVariants as meaning
use Rattle.pads_trans.specs.Names.{Name, at_sign, number_of}

-- By the names of the description.
module _ (names : List Name) where
  abbrev pub variable : Name → Expr
  variable name = expr.Var (number_of names name)

  unfoldable pub meaning_of : NameUse → Expr
  meaning_of (meaning.Variable name) = variable name
  meaning_of meaning.Elts = variable at_sign
  meaning_of meaning.Length = expr.Len (variable at_sign)
  meaning_of (meaning.Field number) = expr.Part (variable at_sign) number

  abbrev pub expr_step : Tree-F Expr → Expr
  expr_step (Tree-F.Number number) = expr.Num number
  expr_step (Tree-F.Word text) = expr.Text text
  expr_step (Tree-F.Truth truth) = expr.Truth truth
  expr_step (Tree-F.Name means sort) = meaning_of means
  expr_step (Tree-F.Part whole number sort) = expr.Part whole number
  expr_step (Tree-F.Branch whole number sort) = expr.Arm whole number
  expr_step (Tree-F.Index array index sort) = expr.Elem array index
  expr_step (Tree-F.Pis value number) = expr.IsArm value number
  expr_step (Tree-F.Plen value) = expr.Len value
  expr_step (Tree-F.Minus operand) = expr.Neg operand
  expr_step (Tree-F.Not operand) = expr.Not operand
  expr_step (Tree-F.Binary op left right) = expr.Bin op left right
  expr_step (Tree-F.Pforall name low high body) = expr.Forall (number_of names name) low high body

  unfoldable pub expr_of : Tree → Expr
  expr_of = fold-Tree Expr expr_step

  abbrev pub option_of : Option Tree → Option Expr
  option_of e = option_map expr_of e
