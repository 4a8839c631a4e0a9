-- The equations of the value, form by form, and what is told of them.
use Rattle.std.proofs.Common.{◌≡◌, ◌∙◌, sym, ap, refl, ℕ, ℤ, List, Bool, false, Some, None}
use Rattle.pads_expr.specs.declared.expr.BinOp.{BinOp}
use Rattle.pads_expr.specs.declared.expr.Expr.{Expr, Expr-F, fold-roll-Expr, fold_out-Expr, roll-Expr, out-Expr, map-Expr}
use Rattle.pads_expr.specs.declared.expr.Expr.TheVariants as expr
use Rattle.pads_expr.specs.Operators.{between, decides, operate}
use Rattle.pads_expr.specs.Parts.{part_of, arm_of, is_arm_of, element_of, length_of, minus, negation}
use Rattle.pads_expr.specs.Ranges.{for_all}
use Rattle.pads_expr.specs.Value.{Pairs, value, step, variable_of, at_number}
use Rattle.pads_expr.specs.Worth.{Worth, Num, Text, Truth, Answer, Is, Absent, Ill, on, worth_or_none}

-- one layer at a time
pub value-roll : (layer : Expr-F Expr) (env : Pairs) → value (roll-Expr layer) env ≡ step (map-Expr Expr (Pairs → Answer) value layer) env
unfolding value
value-roll layer env = ap (λ (f : Pairs → Answer). f env) (fold-roll-Expr (Pairs → Answer) step layer)

-- the same of an expression that is opened
pub value-out : (e : Expr) (env : Pairs) → value e env ≡ step (map-Expr Expr (Pairs → Answer) value (out-Expr e)) env
unfolding value
value-out e env = ap (λ (f : Pairs → Answer). f env) (fold_out-Expr (Pairs → Answer) step e)

pub value-Num : (number : ℤ) (env : Pairs) → value (expr.Num number) env ≡ Is (Num number)
value-Num number env = ap (λ e. value e env) (sym (expr.rolls-Num number)) ∙ value-roll (Expr-F.Num number) env

pub value-Text : (text : List ℕ) (env : Pairs) → value (expr.Text text) env ≡ Is (Text text)
value-Text text env = ap (λ e. value e env) (sym (expr.rolls-Text text)) ∙ value-roll (Expr-F.Text text) env

pub value-Truth : (truth : Bool) (env : Pairs) → value (expr.Truth truth) env ≡ Is (Truth truth)
value-Truth truth env = ap (λ e. value e env) (sym (expr.rolls-Truth truth)) ∙ value-roll (Expr-F.Truth truth) env

pub value-Var : (name : ℕ) (env : Pairs) → value (expr.Var name) env ≡ variable_of env name
value-Var name env = ap (λ e. value e env) (sym (expr.rolls-Var name)) ∙ value-roll (Expr-F.Var name) env

pub value-Part : (whole : Expr) (number : ℕ) (env : Pairs) → value (expr.Part whole number) env ≡ on (value whole env) (part_of number)
value-Part whole number env = ap (λ e. value e env) (sym (expr.rolls-Part whole number)) ∙ value-roll (Expr-F.Part whole number) env

pub value-Arm : (whole : Expr) (number : ℕ) (env : Pairs) → value (expr.Arm whole number) env ≡ on (value whole env) (arm_of number)
value-Arm whole number env = ap (λ e. value e env) (sym (expr.rolls-Arm whole number)) ∙ value-roll (Expr-F.Arm whole number) env

pub value-Elem : (whole index : Expr) (env : Pairs) → value (expr.Elem whole index) env ≡ on (value whole env) (λ array. on (value index env) (element_of array))
value-Elem whole index env = ap (λ e. value e env) (sym (expr.rolls-Elem whole index)) ∙ value-roll (Expr-F.Elem whole index) env

pub value-IsArm : (whole : Expr) (number : ℕ) (env : Pairs) → value (expr.IsArm whole number) env ≡ on (value whole env) (is_arm_of number)
value-IsArm whole number env = ap (λ e. value e env) (sym (expr.rolls-IsArm whole number)) ∙ value-roll (Expr-F.IsArm whole number) env

pub value-Len : (whole : Expr) (env : Pairs) → value (expr.Len whole) env ≡ on (value whole env) length_of
value-Len whole env = ap (λ e. value e env) (sym (expr.rolls-Len whole)) ∙ value-roll (Expr-F.Len whole) env

pub value-Neg : (operand : Expr) (env : Pairs) → value (expr.Neg operand) env ≡ on (value operand env) minus
value-Neg operand env = ap (λ e. value e env) (sym (expr.rolls-Neg operand)) ∙ value-roll (Expr-F.Neg operand) env

pub value-Not : (operand : Expr) (env : Pairs) → value (expr.Not operand) env ≡ on (value operand env) negation
value-Not operand env = ap (λ e. value e env) (sym (expr.rolls-Not operand)) ∙ value-roll (Expr-F.Not operand) env

pub value-Bin : (op : BinOp) (left right : Expr) (env : Pairs) → value (expr.Bin op left right) env ≡ between op (value left env) (value right env)
value-Bin op left right env = ap (λ e. value e env) (sym (expr.rolls-Bin op left right)) ∙ value-roll (Expr-F.Bin op left right) env

pub value-Forall : (name : ℕ) (first last body : Expr) (env : Pairs) →
    value (expr.Forall name first last body) env ≡
    on (value first env) (λ a. on (value last env) (λ b. for_all (at_number (value body) name env) a b))
value-Forall name first last body env =
    ap (λ e. value e env) (sym (expr.rolls-Forall name first last body)) ∙ value-roll (Expr-F.Forall name first last body) env

-- An operand that is told to have no worth leaves none of the whole, and one that has decides it.
pub told-on-none : (a : Answer) (operator : Worth → Answer) → None ≡ worth_or_none a → worth_or_none (on a operator) ≡ None
told-on-none (Is worth) operator none = cc
told-on-none Absent operator none = refl
told-on-none Ill operator none = refl

pub told-on-some : (a : Answer) (operator : Worth → Answer) (worth : Worth) → Some worth ≡ worth_or_none a → worth_or_none (on a operator) ≡ worth_or_none (operator worth)
told-on-some (Is found) operator worth some = let e : worth ≡ found = cc in ap (λ w. worth_or_none (operator w)) (sym e)
told-on-some Absent operator worth some = cc
told-on-some Ill operator worth some = cc

-- The right operand counts where the left one doesn't decide.
pub told-between : (op : BinOp) (left right : Answer) (a b : Worth) → Some a ≡ worth_or_none left → decides op a ≡ false → Some b ≡ worth_or_none right →
    worth_or_none (between op left right) ≡ worth_or_none (operate op a b)
told-between op left right a b some_left undecided some_right =
    told-on-some left _ a some_left ∙ rw undecided (told-on-some right (operate op a) b some_right)

-- the same of an expression that is an operator
pub of_operands : (e left right l r : Expr) (op : BinOp) (env : Pairs) → e ≡ expr.Bin op left right → l ≡ left → r ≡ right →
    between op (value l env) (value r env) ≡ value e env
of_operands e left right l r op env is_bin is_l is_r = rw (is_bin, value-Bin op left right env, is_l, is_r) refl

pub ruleset values = (value-Num, value-Text, value-Truth, value-Var, value-Part, value-Arm, value-Elem, value-IsArm, value-Len, value-Neg, value-Not, value-Bin, value-Forall, told-on-none, told-on-some, told-between)
