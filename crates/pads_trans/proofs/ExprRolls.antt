-- The translation of an expression, form by form.
use Rattle.std.proofs.Common.{◌≡◌, ◌∙◌, sym, ap, ℕ, ℤ, List, Bool}
use Rattle.pads_rules.specs.declared.sort.Sort.{Sort}
use Rattle.pads_expr.specs.declared.expr.Expr.{Expr}
use Rattle.pads_expr.specs.declared.expr.Expr.TheVariants as expr
use Rattle.pads_expr.specs.declared.expr.BinOp.{BinOp}
use Rattle.pads_resolution.specs.declared.expr.NameUse.{NameUse}
use Rattle.pads_resolution.specs.declared.expr.Expr.{Expr as Tree, Expr-F as Tree-F, fold-roll-Expr as fold-roll-Tree, roll-Expr as roll-Tree, map-Expr as map-Tree}
use Rattle.pads_resolution.specs.declared.expr.Expr.TheVariants as tree
use Rattle.pads_trans.specs.Names.{Name, number_of}
use Rattle.pads_trans.specs.Expressions.{meaning_of, expr_of, expr_step}

module _ (names : List Name) where
  expr-roll : (layer : Tree-F Tree) → expr_of names (roll-Tree layer) ≡ expr_step names (map-Tree Tree Expr (expr_of names) layer)
  unfolding expr_of
  expr-roll layer = fold-roll-Tree Expr (expr_step names) layer

  pub made-Number : (number : ℤ) → expr_of names (tree.Number number) ≡ expr.Num number
  made-Number number = ap (expr_of names) (sym (tree.rolls-Number number)) ∙ expr-roll (Tree-F.Number number)

  pub made-Word : (text : List ℕ) → expr_of names (tree.Word text) ≡ expr.Text text
  made-Word text = ap (expr_of names) (sym (tree.rolls-Word text)) ∙ expr-roll (Tree-F.Word text)

  pub made-Truth : (truth : Bool) → expr_of names (tree.Truth truth) ≡ expr.Truth truth
  made-Truth truth = ap (expr_of names) (sym (tree.rolls-Truth truth)) ∙ expr-roll (Tree-F.Truth truth)

  pub made-Name : (means : NameUse) (sort : Sort) → expr_of names (tree.Name means sort) ≡ meaning_of names means
  made-Name means sort = ap (expr_of names) (sym (tree.rolls-Name means sort)) ∙ expr-roll (Tree-F.Name means sort)

  pub made-Part : (whole : Tree) (number : ℕ) (sort : Sort) → expr_of names (tree.Part whole number sort) ≡ expr.Part (expr_of names whole) number
  made-Part whole number sort = ap (expr_of names) (sym (tree.rolls-Part whole number sort)) ∙ expr-roll (Tree-F.Part whole number sort)

  pub made-Branch : (whole : Tree) (number : ℕ) (sort : Sort) → expr_of names (tree.Branch whole number sort) ≡ expr.Arm (expr_of names whole) number
  made-Branch whole number sort = ap (expr_of names) (sym (tree.rolls-Branch whole number sort)) ∙ expr-roll (Tree-F.Branch whole number sort)

  pub made-Index : (array : Tree) (index : Tree) (sort : Sort) → expr_of names (tree.Index array index sort) ≡ expr.Elem (expr_of names array) (expr_of names index)
  made-Index array index sort = ap (expr_of names) (sym (tree.rolls-Index array index sort)) ∙ expr-roll (Tree-F.Index array index sort)

  pub made-Pis : (value : Tree) (number : ℕ) → expr_of names (tree.Pis value number) ≡ expr.IsArm (expr_of names value) number
  made-Pis value number = ap (expr_of names) (sym (tree.rolls-Pis value number)) ∙ expr-roll (Tree-F.Pis value number)

  pub made-Plen : (value : Tree) → expr_of names (tree.Plen value) ≡ expr.Len (expr_of names value)
  made-Plen value = ap (expr_of names) (sym (tree.rolls-Plen value)) ∙ expr-roll (Tree-F.Plen value)

  pub made-Minus : (operand : Tree) → expr_of names (tree.Minus operand) ≡ expr.Neg (expr_of names operand)
  made-Minus operand = ap (expr_of names) (sym (tree.rolls-Minus operand)) ∙ expr-roll (Tree-F.Minus operand)

  pub made-Not : (operand : Tree) → expr_of names (tree.Not operand) ≡ expr.Not (expr_of names operand)
  made-Not operand = ap (expr_of names) (sym (tree.rolls-Not operand)) ∙ expr-roll (Tree-F.Not operand)

  pub made-Binary : (op : BinOp) (left : Tree) (right : Tree) → expr_of names (tree.Binary op left right) ≡ expr.Bin op (expr_of names left) (expr_of names right)
  made-Binary op left right = ap (expr_of names) (sym (tree.rolls-Binary op left right)) ∙ expr-roll (Tree-F.Binary op left right)

  pub made-Pforall : (name : Name) (low : Tree) (high : Tree) (body : Tree) → expr_of names (tree.Pforall name low high body) ≡ expr.Forall (number_of names name) (expr_of names low) (expr_of names high) (expr_of names body)
  made-Pforall name low high body = ap (expr_of names) (sym (tree.rolls-Pforall name low high body)) ∙ expr-roll (Tree-F.Pforall name low high body)

pub ruleset expr_rules = (
  made-Number,
  made-Word,
  made-Truth,
  made-Name,
  made-Part,
  made-Branch,
  made-Index,
  made-Pis,
  made-Plen,
  made-Minus,
  made-Not,
  made-Binary,
  made-Pforall,
)
