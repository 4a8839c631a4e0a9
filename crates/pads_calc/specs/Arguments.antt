-- Arguments: the expressions that stand for a number or a text, and what parameters are bound to.
use Rattle.std.specs.Prelude.{ℕ, Bool, false, List, [], ◌∷◌, Option, Some, None}
use Rattle.pads_value.specs.declared.value.Val.{Val}
use Rattle.pads_value.specs.declared.value.Val.TheVariants as val
use Rattle.pads_expr.specs.declared.expr.Expr.{Expr}
use Rattle.pads_expr.specs.Value.{Pairs, value}
use Rattle.pads_expr.specs.Worth.{Worth, worth_or_none}
use Rattle.pads_expr.specs.Worth as worth
use Rattle.pads_dispatch.specs.declared.base.Arg.{Arg}
use Rattle.pads_dispatch.specs.declared.base.Arg.TheVariants as arg

-- a number or a text; nothing else is an argument
abbrev pub arg_of_worth : Worth → Option Arg
arg_of_worth (worth.Num number) = Some (arg.Num number)
arg_of_worth (worth.Text text) = Some (arg.Text text)
arg_of_worth (worth.Truth truth) = None
arg_of_worth (worth.Part part) = None

abbrev pub arg_told : Option Worth → Option Arg
arg_told None = None
arg_told (Some found) = arg_of_worth found

abbrev pub argument : Expr → Pairs → Option Arg
argument e env = arg_told (worth_or_none (value e env))

-- the arguments, where each has a value
abbrev pub and_more : Option Arg → Option (List Arg) → Option (List Arg)
and_more None more = None
and_more (Some first) None = None
and_more (Some first) (Some more) = Some (first ∷ more)

abbrev pub arguments : List Expr → Pairs → Option (List Arg)
arguments [] env = Some []
arguments (e ∷ es) env = and_more (argument e env) (arguments es env)

-- whether an expression is true; one without a value isn't
abbrev pub is_true_worth : Worth → Bool
is_true_worth (worth.Num number) = false
is_true_worth (worth.Text text) = false
is_true_worth (worth.Truth truth) = truth
is_true_worth (worth.Part part) = false

abbrev pub is_true_told : Option Worth → Bool
is_true_told None = false
is_true_told (Some found) = is_true_worth found

abbrev pub is_true : Expr → Pairs → Bool
is_true e env = is_true_told (worth_or_none (value e env))

abbrev pub value_of_arg : Arg → Val
value_of_arg (arg.Num number) = val.Num number
value_of_arg (arg.Text text) = val.Text text

-- parameters bound to arguments, the last first; there are as many of both
abbrev pub bound_to : List ℕ → List Arg → Pairs → Pairs
bound_to [] args env = env
bound_to (name ∷ names) [] env = env
bound_to (name ∷ names) (first ∷ args) env = bound_to names args ((name, value_of_arg first) ∷ env)
