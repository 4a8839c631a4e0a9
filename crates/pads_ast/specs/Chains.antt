-- What stands alone at its level is that part itself.
use Rattle.std.specs.Prelude.{List, [], ◌∷◌}
use Rattle.pads_ast.specs.declared.expr.Expr.{Expr}
use Rattle.pads_ast.specs.declared.expr.Expr.TheVariants as expr
use Rattle.pads_ast.specs.declared.expr.Link.{Link}
use Rattle.pads_ast.specs.declared.expr.Step.{Step}

-- Operands of one level, from the first on.
abbrev pub chain : Expr → List (Link Expr) → Expr
chain first [] = first
chain first (link ∷ links) = expr.Chain first (link ∷ links)

-- An atom with what stands behind it.
abbrev pub post : Expr → List (Step Expr) → Expr
post base [] = base
post base (step ∷ steps) = expr.Post base (step ∷ steps)
