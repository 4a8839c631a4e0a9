-- Variables, calls and counts of code: each variable is bound where its instruction stands, each call has
-- its declaration's number of arguments, and 16 bits count labels and cases.
use Rattle.std.specs.Prelude.{ℕ, Bool, true, false, ◌&&◌, List, [], ◌∷◌, drop, length, Option, Some, None, slice_get, if◌then◌else◌}
use Rattle.std.specs.List.{list_all}
use Rattle.pads_expr.specs.declared.expr.Expr.{Expr, Expr-F, fold-Expr}
use Rattle.pads_dispatch.specs.Labels.{labels_fit}
use Rattle.pads_module.specs.Scopes.{InScope, is_bound, bind_name, has_arity}
use Rattle.pads_image.specs.declared.op.Op.{Op}
use Rattle.pads_image.specs.declared.op.Op.TheVariants as op

-- whether the variables of an expression are bound where these names are
abbrev pub expr_step : Expr-F InScope → InScope
expr_step (Expr-F.Num number) scope = true
expr_step (Expr-F.Text text) scope = true
expr_step (Expr-F.Truth truth) scope = true
expr_step (Expr-F.Var name) scope = is_bound name scope
expr_step (Expr-F.Part whole number) scope = whole scope
expr_step (Expr-F.Arm whole number) scope = whole scope
expr_step (Expr-F.Elem whole index) scope = whole scope && index scope
expr_step (Expr-F.IsArm whole number) scope = whole scope
expr_step (Expr-F.Len whole) scope = whole scope
expr_step (Expr-F.Neg operand) scope = operand scope
expr_step (Expr-F.Not operand) scope = operand scope
expr_step (Expr-F.Bin operator left right) scope = left scope && right scope
expr_step (Expr-F.Forall name first last body) scope = first scope && last scope && body (name ∷ scope)

unfoldable pub is_closed : Expr → InScope
is_closed = fold-Expr InScope expr_step

abbrev pub all_closed : List Expr → InScope
all_closed es scope = list_all (λ e. is_closed e scope) es

abbrev pub option_closed : Option Expr → InScope
option_closed None scope = true
option_closed (Some e) scope = is_closed e scope

-- what an instruction says, where declarations have these numbers of parameters and these names are bound
abbrev pub op_stands : List ℕ → Op → InScope
op_stands arities (op.Base base args) scope = labels_fit base && all_closed args scope
op_stands arities (op.Compute e form) scope = is_closed e scope
op_stands arities (op.Guard binder condition) scope = is_closed condition (binder ∷ scope)
op_stands arities (op.Switch e left end) scope = is_closed e scope
op_stands arities (op.Size size end) scope = option_closed size scope
op_stands arities (op.Full last elts to) scope = option_closed last (elts ∷ scope)
op_stands arities (op.Call number args) scope = has_arity (slice_get arities number) (length args) && all_closed args scope
op_stands arities _ scope = true

-- the names that are bound behind an instruction
abbrev pub scope_after : Op → List ℕ → List ℕ
scope_after (op.Part name) scope = bind_name name scope
scope_after (op.Close m) scope = drop m scope
scope_after _ scope = scope

-- the parameters of the next declaration, and those of the declarations behind it
abbrev pub next_params : List (List ℕ) → List ℕ
next_params [] = []
next_params (params ∷ later) = params

abbrev pub later_params : List (List ℕ) → List (List ℕ)
later_params [] = []
later_params (params ∷ later) = later

-- the end of a declaration
abbrev pub is_return : Op → Bool
is_return op.Return = true
is_return _ = false

-- the code from some instruction on, where these names are bound; `later`: the parameters of the
-- declarations that are still to come
unfoldable pub code_stands : List ℕ → List (List ℕ) → List ℕ → List Op → Bool
code_stands arities later scope [] = true
code_stands arities later scope (instruction ∷ code) =
    if is_return instruction then code_stands arities (later_params later) (next_params later) code
    else op_stands arities instruction scope && code_stands arities later (scope_after instruction scope) code
