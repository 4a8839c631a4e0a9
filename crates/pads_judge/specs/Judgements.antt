-- What is told of a judged expression: of its violations the least alone, of its height no more than that
-- it is too high. The forms of expressions in these terms.
use Rattle.std.specs.Prelude.{ℕ, suc, min, max, Bool, not, ◌&&◌, if◌then◌else◌, List, Option, Some, None}
use Rattle.pads_expr.specs.declared.expr.BinOp.{BinOp}
use Rattle.pads_ast.specs.declared.expr.Expr.{Expr}
use Rattle.pads_ast.specs.declared.expr.Link.{Link}
use Rattle.pads_ast.specs.declared.expr.Step.{Step}
use Rattle.pads_ast.specs.declared.expr.Step.TheVariants as step_form
use Rattle.pads_ast.specs.declared.expr.UnaryOperator.{UnaryOperator}
use Rattle.pads_ast.specs.declared.name.Name.{Name}
use Rattle.pads_rules.specs.declared.sort.Form.{Form}
use Rattle.pads_rules.specs.declared.declared.Declared.{Declared}
use Rattle.pads_rules.specs.declared.expr_sort.ExprSort.{ExprSort}
use Rattle.pads_rules.specs.declared.expr_sort.ExprSort.TheVariants as expr_sort
use Rattle.pads_rules.specs.declared.fault.CheckFault.{CheckFault}
use Rattle.pads_rules.specs.declared.rule.Rule.TheVariants as rule
use Rattle.pads_rules.specs.Faults.{breaks, when, lesser, least}
use Rattle.pads_rules.specs.Judging.{Scope, Judged, judged, too_high, takes, result_of, unary_takes, unary_gives, is_text_or_array}
use Rattle.pads_rules.specs.Members.{member, element, may_choose, has_choice}
use Rattle.pads_rules.specs.Sorts.{num, truth, accepts, agree, is_num_form, is_truth_form, is_array_form}
use Rattle.pads_rules.specs.Texts.{is_among, sort_of}
use Rattle.pads_judge.specs.declared.judgement.Judgement.{Judgement}

-- A height as it is told: 257 stands for every greater one.
abbrev pub capped : ℕ → ℕ
capped height = min height 257

-- The height of a tree one node above another.
abbrev pub above : ℕ → ℕ
above height = min (suc height) 257

abbrev pub shown_judgement : Judged → Judgement
shown_judgement j = record { first = j.first; height = capped j.height; sort = j.sort; fault = least j.faults }

abbrev pub unless_fault : Option CheckFault → ExprSort → ExprSort
unless_fault None sort = sort
unless_fault (Some violation) sort = expr_sort.Unknown

abbrev pub with_fault : ℕ → ℕ → ExprSort → Option CheckFault → Judgement
with_fault first height sort fault = record { first = first; height = height; sort = unless_fault fault sort; fault = fault }

-- An expression, by the least of the violations of its parts and its form.
unfoldable pub settle : ℕ → ℕ → ExprSort → Option CheckFault → Judgement
settle first height sort fault = with_fault first height sort (lesser fault (least (too_high first height)))

-- An operand of a wrong sort, a condition that isn't a truth value.
abbrev pub wrong : (Form → Bool) → Judgement → Option CheckFault
wrong takes j = least (when (not (accepts takes j.sort)) (breaks rule.OperandSort j.first))

abbrev pub untrue : Judgement → Option CheckFault
untrue j = least (when (not (accepts is_truth_form j.sort)) (breaks rule.ConditionSort j.first))

abbrev pub leaf : ℕ → ExprSort → Judgement
leaf at sort = settle at 1 sort None

abbrev pub variable_found : Scope → Name → Option ExprSort → Judgement
variable_found scope name (Some sort) = leaf name.at sort
variable_found scope name None = settle name.at 1 expr_sort.Unknown (Some (breaks (if is_among scope.later name.text then rule.LaterField else rule.UnknownName) name.at))

unfoldable pub variable : Scope → Name → Judgement
variable scope name = variable_found scope name (sort_of scope.visible name.text)

abbrev pub wrong_operands : (Form → Bool) → Judgement → Judgement → Option CheckFault
wrong_operands takes left right =
    lesser (lesser (wrong takes left) (wrong takes right))
    (least (when (accepts takes left.sort && accepts takes right.sort && not (agree left.sort right.sort)) (breaks rule.OperandSort right.first)))

unfoldable pub binary : BinOp → Judgement → Judgement → Judgement
binary operator left right =
    settle left.first (above (max left.height right.height)) (result_of operator)
    (lesser (lesser left.fault right.fault) (wrong_operands (takes operator) left right))

unfoldable pub unary : UnaryOperator → ℕ → Judgement → Judgement
unary operator at operand =
    settle at (above operand.height) (unary_gives operator) (lesser operand.fault (wrong (unary_takes operator) operand))

abbrev pub member_found : Judgement → Name → Option ExprSort → Judgement
member_found whole name (Some sort) = settle whole.first (above whole.height) sort whole.fault
member_found whole name None = settle whole.first (above whole.height) expr_sort.Unknown (lesser whole.fault (Some (breaks rule.UnknownMember name.at)))

unfoldable pub member_of : List Declared → Judgement → Name → Judgement
member_of env whole name = member_found whole name (member env whole.sort name.text)

unfoldable pub indexed : List Declared → Judgement → Judgement → Judgement
indexed env whole index =
    settle whole.first (above (max whole.height index.height)) (element env whole.sort)
    (lesser (lesser (lesser whole.fault index.fault) (wrong is_array_form whole)) (wrong is_num_form index))

unfoldable pub parenthesized : ℕ → Judgement → Judgement
parenthesized at inner = settle at inner.height inner.sort inner.fault

abbrev pub no_choice : List Declared → Judgement → Name → Option CheckFault
no_choice env value name =
    lesser (least (when (not (may_choose value.sort)) (breaks rule.UnknownChoice value.first)))
    (least (when (may_choose value.sort && not (has_choice env value.sort name.text)) (breaks rule.UnknownChoice name.at)))

unfoldable pub pis : List Declared → ℕ → Judgement → Name → Judgement
pis env at value name = settle at (above value.height) truth (lesser value.fault (no_choice env value name))

unfoldable pub plen : ℕ → Judgement → Judgement
plen at value = settle at (above value.height) num (lesser value.fault (wrong is_text_or_array value))

abbrev pub wrong_range : Judgement → Judgement → Judgement → Option CheckFault
wrong_range low high body =
    lesser (lesser (lesser (lesser (lesser low.fault high.fault) body.fault) (wrong is_num_form low)) (wrong is_num_form high)) (untrue body)

unfoldable pub pforall : ℕ → Judgement → Judgement → Judgement → Judgement
pforall at low high body =
    settle at (above (max (max low.height high.height) body.height)) truth (wrong_range low high body)

-- An operator and its right operand behind a left one.
abbrev pub linked : List Declared → Scope → Judgement → Link Expr → Judgement
linked env scope left link = binary link.operator left (shown_judgement (judged env link.operand scope))

-- What stands behind an atom.
abbrev pub stepped : List Declared → Scope → Judgement → Step Expr → Judgement
stepped env scope whole (step_form.Name name) = member_of env whole name
stepped env scope whole (step_form.Index at index) = indexed env whole (shown_judgement (judged env index scope))
