-- The value of an expression where names stand for values.
use Rattle.std.specs.Prelude.{ℕ, ℤ, ◌==◌, List, ◌∷◌, Option, option_map, find}
use Rattle.pads_value.specs.declared.value.Val.{Val}
use Rattle.pads_value.specs.declared.value.Val.TheVariants as val
use Rattle.pads_expr.specs.declared.expr.Expr.{Expr, Expr-F, fold-Expr}
use Rattle.pads_expr.specs.Operators.{between}
use Rattle.pads_expr.specs.Parts.{worth_or, part_of, arm_of, is_arm_of, element_of, length_of, minus, negation}
use Rattle.pads_expr.specs.Ranges.{for_all}
use Rattle.pads_expr.specs.Worth.{Num, Text, Truth, Answer, Is, Absent, on}

-- An environment: names with their values, the latest binding first.
abbrev pub Pairs : Type 0
Pairs = List (ℕ × Val)

-- What a name stands for: the latest binding of it counts.
abbrev pub found : Pairs → ℕ → Option Val
found pairs name = option_map (λ pair. pair.1) (find (λ pair. pair.0 == name) pairs)

-- What a name is worth. One that isn't bound is absent.
abbrev pub variable_of : Pairs → ℕ → Answer
variable_of pairs name = worth_or Absent (found pairs name)

-- What a body gives where its variable stands for a number.
abbrev pub at_number : (Pairs → Answer) → ℕ → Pairs → ℤ → Answer
at_number body name env number = body ((name, val.Num number) ∷ env)

-- One form of expression, from the values of its operands.
abbrev pub step : Expr-F (Pairs → Answer) → Pairs → Answer
step (Expr-F.Num number) env = Is (Num number)
step (Expr-F.Text text) env = Is (Text text)
step (Expr-F.Truth truth) env = Is (Truth truth)
step (Expr-F.Var name) env = variable_of env name
step (Expr-F.Part whole number) env = on (whole env) (part_of number)
step (Expr-F.Arm whole number) env = on (whole env) (arm_of number)
step (Expr-F.Elem whole index) env = on (whole env) (λ array. on (index env) (element_of array))
step (Expr-F.IsArm whole number) env = on (whole env) (is_arm_of number)
step (Expr-F.Len whole) env = on (whole env) length_of
step (Expr-F.Neg operand) env = on (operand env) minus
step (Expr-F.Not operand) env = on (operand env) negation
step (Expr-F.Bin op left right) env = between op (left env) (right env)
step (Expr-F.Forall name first last body) env =
    on (first env) (λ a. on (last env) (λ b. for_all (at_number body name env) a b))

-- The value of an expression in an environment.
unfoldable pub value : Expr → Pairs → Answer
value = fold-Expr (Pairs → Answer) step
