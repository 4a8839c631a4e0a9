-- Rows of names and expressions, computed on the definitions.
use Rattle.std.proofs.Common.{◌≡◌, refl, pos, List, [], ◌∷◌}
use Rattle.pads_expr.specs.declared.expr.BinOp.TheVariants as bin
use Rattle.pads_expr.specs.declared.expr.Expr.TheVariants as expr
use Rattle.pads_rules.specs.declared.sort.Sort.{Sort}
use Rattle.pads_resolution.specs.declared.expr.Expr.TheVariants as tree
use Rattle.pads_resolution.specs.declared.expr.NameUse.TheVariants as meaning
use Rattle.pads_trans.specs.Names.{Name, some_name, none_name, number_of, with_name, with_names, at_sign}
use Rattle.pads_trans.specs.Expressions.{expr_of, meaning_of}
use Rattle.pads_trans.proofs.ExprRolls.{made-Binary, made-Name, made-Number}

y : Name
y = 0x79 ∷ []

x : Name
x = 0x78 ∷ []

-- Each name has the place where it is first met: y, x, y, `@`.
numbered : with_names [] (y ∷ x ∷ y ∷ at_sign ∷ []) ≡ y ∷ x ∷ at_sign ∷ []
unfolding with_name y x
numbered = refl

names : List Name
names = some_name ∷ none_name ∷ y ∷ x ∷ []

module _ (sort : Sort) where
  -- y >= 1
  y_bound : expr_of names (tree.Binary bin.Ge (tree.Name (meaning.Variable y) sort) (tree.Number (pos 1))) ≡ expr.Bin bin.Ge (expr.Var 2) (expr.Num (pos 1))
  unfolding meaning_of number_of names y x
  y_bound = rw (made-Binary names bin.Ge (tree.Name (meaning.Variable y) sort) (tree.Number (pos 1)), made-Name names (meaning.Variable y) sort, made-Number names (pos 1)) refl
