-- The expressions of filters, form by form, and the names in scope.
use Rattle.std.proofs.Common.{◌≡◌, ◌∙◌, sym, ap, ℕ, ℤ, List, Bool, ◌∷◌, [], Bor}
use Rattle.std.specs.Prelude.{length}
use Rattle.pads_rules.specs.declared.sort.Sort.{Sort}
use Rattle.pads_expr.specs.declared.expr.Expr.{Expr}
use Rattle.pads_expr.specs.declared.expr.Expr.TheVariants as expr
use Rattle.pads_expr.specs.declared.expr.BinOp.{BinOp}
use Rattle.pads_resolution.specs.Numbers.{short}
use Rattle.pads_resolution.specs.declared.expr.NameUse.{NameUse}
use Rattle.pads_resolution.specs.declared.expr.Expr.{Expr as Tree, Expr-F as Tree-F, fold-roll-Expr as fold-roll-Tree, roll-Expr as roll-Tree, map-Expr as map-Tree}
use Rattle.pads_resolution.specs.declared.expr.Expr.TheVariants as tree
use Rattle.pads_question.specs.Filters.{it}
use Rattle.pads_question.specs.Levels.{Names, level_of_use, level_step, levelled}
use Rattle.pads_question.specs.LevelScopes.{names_of, scope_step}
use Rattle.pads_question.specs.declared.levels.Levels.{Levels, Levels-F, fold-roll-Levels}
use Rattle.pads_question.specs.declared.levels.Levels.TheVariants as scope

level-roll : (layer : Tree-F Tree) → levelled (roll-Tree layer) ≡ level_step (map-Tree Tree (Names → Expr) levelled layer)
unfolding levelled
level-roll layer = fold-roll-Tree (Names → Expr) level_step layer

module _ (names : Names) where
  pub made-Number : (number : ℤ) → levelled (tree.Number number) names ≡ expr.Num number
  made-Number number = ap (λ made. levelled made names) (sym (tree.rolls-Number number)) ∙ ap (λ made. made names) (level-roll (Tree-F.Number number))

  pub made-Word : (text : List ℕ) → levelled (tree.Word text) names ≡ expr.Text text
  made-Word text = ap (λ made. levelled made names) (sym (tree.rolls-Word text)) ∙ ap (λ made. made names) (level-roll (Tree-F.Word text))

  pub made-Truth : (truth : Bool) → levelled (tree.Truth truth) names ≡ expr.Truth truth
  made-Truth truth = ap (λ made. levelled made names) (sym (tree.rolls-Truth truth)) ∙ ap (λ made. made names) (level-roll (Tree-F.Truth truth))

  pub made-Name : (means : NameUse) (sort : Sort) → levelled (tree.Name means sort) names ≡ level_of_use names means
  made-Name means sort = ap (λ made. levelled made names) (sym (tree.rolls-Name means sort)) ∙ ap (λ made. made names) (level-roll (Tree-F.Name means sort))

  pub made-Part : (whole : Tree) (number : ℕ) (sort : Sort) → levelled (tree.Part whole number sort) names ≡ expr.Part (levelled whole names) number
  made-Part whole number sort = ap (λ made. levelled made names) (sym (tree.rolls-Part whole number sort)) ∙ ap (λ made. made names) (level-roll (Tree-F.Part whole number sort))

  pub made-Branch : (whole : Tree) (number : ℕ) (sort : Sort) → levelled (tree.Branch whole number sort) names ≡ expr.Arm (levelled whole names) number
  made-Branch whole number sort = ap (λ made. levelled made names) (sym (tree.rolls-Branch whole number sort)) ∙ ap (λ made. made names) (level-roll (Tree-F.Branch whole number sort))

  pub made-Index : (array : Tree) (index : Tree) (sort : Sort) → levelled (tree.Index array index sort) names ≡ expr.Elem (levelled array names) (levelled index names)
  made-Index array index sort = ap (λ made. levelled made names) (sym (tree.rolls-Index array index sort)) ∙ ap (λ made. made names) (level-roll (Tree-F.Index array index sort))

  pub made-Pis : (value : Tree) (number : ℕ) → levelled (tree.Pis value number) names ≡ expr.IsArm (levelled value names) number
  made-Pis value number = ap (λ made. levelled made names) (sym (tree.rolls-Pis value number)) ∙ ap (λ made. made names) (level-roll (Tree-F.Pis value number))

  pub made-Plen : (value : Tree) → levelled (tree.Plen value) names ≡ expr.Len (levelled value names)
  made-Plen value = ap (λ made. levelled made names) (sym (tree.rolls-Plen value)) ∙ ap (λ made. made names) (level-roll (Tree-F.Plen value))

  pub made-Minus : (operand : Tree) → levelled (tree.Minus operand) names ≡ expr.Neg (levelled operand names)
  made-Minus operand = ap (λ made. levelled made names) (sym (tree.rolls-Minus operand)) ∙ ap (λ made. made names) (level-roll (Tree-F.Minus operand))

  pub made-Not : (operand : Tree) → levelled (tree.Not operand) names ≡ expr.Not (levelled operand names)
  made-Not operand = ap (λ made. levelled made names) (sym (tree.rolls-Not operand)) ∙ ap (λ made. made names) (level-roll (Tree-F.Not operand))

  pub made-Binary : (op : BinOp) (left : Tree) (right : Tree) → levelled (tree.Binary op left right) names ≡ expr.Bin op (levelled left names) (levelled right names)
  made-Binary op left right = ap (λ made. levelled made names) (sym (tree.rolls-Binary op left right)) ∙ ap (λ made. made names) (level-roll (Tree-F.Binary op left right))

  pub made-Pforall : (name : List ℕ) (low : Tree) (high : Tree) (body : Tree) → levelled (tree.Pforall name low high body) names ≡ expr.Forall (short (length names)) (levelled low names) (levelled high names) (levelled body (name ∷ names))
  made-Pforall name low high body = ap (λ made. levelled made names) (sym (tree.rolls-Pforall name low high body)) ∙ ap (λ made. made names) (level-roll (Tree-F.Pforall name low high body))

pub ruleset level_rules = (
  made-Number,
  made-Word,
  made-Truth,
  made-Name,
  made-Part,
  made-Branch,
  made-Index,
  made-Pis,
  made-Plen,
  made-Minus,
  made-Not,
  made-Binary,
  made-Pforall,
)

pub in-it : names_of scope.It ≡ it ∷ []
in-it = ap names_of (sym scope.rolls-It) ∙ fold-roll-Levels Names scope_step Levels-F.It

pub in-inside : (name : Bor (List ℕ)) (outer : Bor Levels) → names_of (scope.Inside name outer) ≡ name.now ∷ names_of outer.now
in-inside name outer = ap names_of (sym (scope.rolls-Inside name outer)) ∙ fold-roll-Levels Names scope_step (Levels-F.Inside name outer)

pub ruleset scope_rules = (in-it, in-inside)
