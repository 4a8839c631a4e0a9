-- The expressions of filters: names by how many `Pforall`s are around them.
--
--   it               the variable 0
--   a variable       the number of the `Pforall`s that hold its own, that one counted
--   .name, a[i], Plen, Pis, Pforall and operators are translated as in descriptions
--
-- A filter has no other names: `elts`, `length` and the fields of a `Pwhere` stand in declarations alone.
use Rattle.std.specs.Prelude.{ℕ, List, [], ◌∷◌, length, if◌then◌else◌}
use Rattle.pads_expr.specs.declared.expr.Expr.{Expr}
use Rattle.pads_expr.specs.declared.expr.Expr.TheVariants as expr
use Rattle.pads_rules.specs.Texts.{same_text}
use Rattle.pads_resolution.specs.Numbers.{short}
use Rattle.pads_resolution.specs.declared.expr.Expr.{Expr as Tree, Expr-F as Tree-F, fold-Expr as fold-Tree}
use Rattle.pads_resolution.specs.declared.expr.NameUse.{NameUse}
use Rattle.pads_resolution.specs.declared.expr.NameUse.TheVariants as meaning

-- The names in scope, the innermost first; the last is `it`.
abbrev pub Names : Type 0
Names = List (List ℕ)

-- The number of a name: how many are around it.
abbrev pub level_of : Names → List ℕ → ℕ
level_of [] name = 0
level_of (inner ∷ outer) name = if same_text inner name then short (length outer) else level_of outer name

unfoldable pub level_of_use : Names → NameUse → Expr
level_of_use names (meaning.Variable name) = expr.Var (level_of names name)
level_of_use names meaning.Elts = expr.Var 0
level_of_use names meaning.Length = expr.Var 0
level_of_use names (meaning.Field number) = expr.Var 0

abbrev pub level_step : Tree-F (Names → Expr) → Names → Expr
level_step (Tree-F.Number number) names = expr.Num number
level_step (Tree-F.Word text) names = expr.Text text
level_step (Tree-F.Truth truth) names = expr.Truth truth
level_step (Tree-F.Name means sort) names = level_of_use names means
level_step (Tree-F.Part whole number sort) names = expr.Part (whole names) number
level_step (Tree-F.Branch whole number sort) names = expr.Arm (whole names) number
level_step (Tree-F.Index array index sort) names = expr.Elem (array names) (index names)
level_step (Tree-F.Pis value number) names = expr.IsArm (value names) number
level_step (Tree-F.Plen value) names = expr.Len (value names)
level_step (Tree-F.Minus operand) names = expr.Neg (operand names)
level_step (Tree-F.Not operand) names = expr.Not (operand names)
level_step (Tree-F.Binary op left right) names = expr.Bin op (left names) (right names)
level_step (Tree-F.Pforall name low high body) names = expr.Forall (short (length names)) (low names) (high names) (body (name ∷ names))

-- An expression with these names in scope.
unfoldable pub levelled : Tree → Names → Expr
levelled = fold-Tree (Names → Expr) level_step
