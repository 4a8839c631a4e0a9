-- Arguments of base types that stand in the code as literals.
use Rattle.std.specs.Prelude.{List, [], ◌∷◌, Option, Some, None}
use Rattle.pads_expr.specs.declared.expr.Expr.{Expr}
use Rattle.pads_expr.specs.declared.expr.Expr.TheVariants as expr
use Rattle.pads_dispatch.specs.declared.base.Arg.{Arg}
use Rattle.pads_dispatch.specs.declared.base.Arg.TheVariants as arg

-- the argument that a literal stands for
abbrev pub literal_arg : Expr → Option Arg
literal_arg (expr.Num number) = Some (arg.Num number)
literal_arg (expr.Text text) = Some (arg.Text text)
literal_arg e = None

-- so many arguments: one or none
abbrev pub one_or_none : Option Arg → List Arg
one_or_none (Some found) = found ∷ []
one_or_none None = []

-- the argument of a single expression, where that is a literal
abbrev pub literal_args : List Expr → List Arg
literal_args (e ∷ []) = one_or_none (literal_arg e)
literal_args es = []
