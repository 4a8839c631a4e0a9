-- The judging of expressions: their sorts, and the rules that they break.
use Rattle.std.specs.Prelude.{ℕ, suc, max, nat_lt, Bool, not, ◌&&◌, ◌||◌, if◌then◌else◌, List, [], ◌∷◌, ◌++◌, Option, Some, None}
use Rattle.pads_rules.specs.declared.sort.Form.{Form}
use Rattle.pads_ast.specs.declared.expr.Expr.{Expr, Expr-F, fold-Expr}
use Rattle.pads_ast.specs.declared.expr.Link.{Link}
use Rattle.pads_ast.specs.declared.expr.Step.{Step}
use Rattle.pads_ast.specs.declared.expr.Step.TheVariants as step_form
use Rattle.pads_expr.specs.declared.expr.BinOp.{BinOp}
use Rattle.pads_expr.specs.declared.expr.BinOp.TheVariants as binary_form
use Rattle.pads_ast.specs.declared.expr.UnaryOperator.{UnaryOperator}
use Rattle.pads_ast.specs.declared.expr.UnaryOperator.TheVariants as unary_form
use Rattle.pads_ast.specs.declared.name.Name.{Name}
use Rattle.pads_ast.specs.declared.name.Word.{Word}
use Rattle.pads_ast.specs.declared.name.Word.TheVariants as word
use Rattle.pads_rules.specs.declared.declared.Declared.{Declared}
use Rattle.pads_rules.specs.declared.declared.Named.{Named}
use Rattle.pads_rules.specs.declared.expr_sort.ExprSort.{ExprSort}
use Rattle.pads_rules.specs.declared.expr_sort.ExprSort.TheVariants as expr_sort
use Rattle.pads_rules.specs.declared.fault.CheckFault.{CheckFault}
use Rattle.pads_rules.specs.declared.rule.Rule.TheVariants as rule
use Rattle.pads_rules.specs.Faults.{breaks, when}
use Rattle.pads_rules.specs.Members.{member, element, may_choose, has_choice}
use Rattle.pads_rules.specs.Sorts.{num, text, truth, accepts, agree, is_num_form, is_text_form, is_truth_form, is_array_form, unless_broken}
use Rattle.pads_rules.specs.Texts.{is_among, sort_of}

-- The names that an expression may use: those in scope with their sorts, of which the first of a text counts,
-- and the names of this and the later fields of the same struct.
pub record Scope : Type 0 where
  pub visible : List Named
  pub later : List (List ℕ)

-- A name in scope that hides others.
abbrev pub hiding : List ℕ → ExprSort → Scope → Scope
hiding name sort scope = record { visible = record { text = name; sort = sort } ∷ scope.visible; later = scope.later }

-- What is known of an expression: the place of its first token, the height of its tree, its sort, and the
-- violations that it holds.
pub record Judged : Type 0 where
  pub first : ℕ
  pub height : ℕ
  pub sort : ExprSort
  pub faults : List CheckFault

-- Rule 24: an expression's tree is higher than 256.
abbrev pub too_high : ℕ → ℕ → List CheckFault
too_high first height = when (nat_lt 256 height) (breaks rule.Limit first)

-- An expression, by the place of its first token, the height of its tree, the sort that its form has and the
-- violations of its parts and its form. One that holds a violation has the unknown sort.
abbrev pub judgement : ℕ → ℕ → ExprSort → List CheckFault → Judged
judgement first height sort faults =
    let all = faults ++ too_high first height
    in record { first = first; height = height; sort = unless_broken all sort; faults = all }

-- Rule 9: an operand, an index or a bound has a sort that what stands around it doesn't take.
abbrev pub wrong_sort : (Form → Bool) → Judged → List CheckFault
wrong_sort takes operand = when (not (accepts takes operand.sort)) (breaks rule.OperandSort operand.first)

-- Rule 10: a condition isn't a truth value.
abbrev pub no_truth : Judged → List CheckFault
no_truth condition = when (not (accepts is_truth_form condition.sort)) (breaks rule.ConditionSort condition.first)

-- Rules 5 and 6: a name isn't in scope. It is one of this or a later field of the same struct, or it isn't.
abbrev pub not_in_scope : Scope → Name → List CheckFault
not_in_scope scope name = breaks (if is_among scope.later name.text then rule.LaterField else rule.UnknownName) name.at ∷ []

-- Rule 16: what stands behind a dot is no field or branch.
abbrev pub no_member : Name → List CheckFault
no_member name = breaks rule.UnknownMember name.at ∷ []

-- Rule 17: `Pis` on something that has no branches or labels, or naming none of them.
abbrev pub no_choice : List Declared → Judged → Name → List CheckFault
no_choice env value name =
    when (not (may_choose value.sort)) (breaks rule.UnknownChoice value.first)
    ++ when (may_choose value.sort && not (has_choice env value.sort name.text)) (breaks rule.UnknownChoice name.at)

abbrev pub place_of : Word → ℕ
place_of (word.Char point at) = at
place_of (word.Text points at) = at

abbrev pub leaf : ℕ → ExprSort → Judged
leaf at sort = judgement at 1 sort []

abbrev pub variable_found : Scope → Name → Option ExprSort → Judged
variable_found scope name (Some sort) = leaf name.at sort
variable_found scope name None = judgement name.at 1 expr_sort.Unknown (not_in_scope scope name)

abbrev pub variable : Scope → Name → Judged
variable scope name = variable_found scope name (sort_of scope.visible name.text)

-- The plain forms that an operator takes.
abbrev pub takes : BinOp → Form → Bool
takes binary_form.Or f = is_truth_form f
takes binary_form.And f = is_truth_form f
takes binary_form.Eq f = is_num_form f || is_text_form f || is_truth_form f
takes binary_form.Ne f = is_num_form f || is_text_form f || is_truth_form f
takes binary_form.Lt f = is_num_form f || is_text_form f
takes binary_form.Le f = is_num_form f || is_text_form f
takes binary_form.Gt f = is_num_form f || is_text_form f
takes binary_form.Ge f = is_num_form f || is_text_form f
takes binary_form.Add f = is_num_form f
takes binary_form.Sub f = is_num_form f
takes binary_form.Mul f = is_num_form f
takes binary_form.Div f = is_num_form f
takes binary_form.Rem f = is_num_form f

-- What an operator gives.
abbrev pub result_of : BinOp → ExprSort
result_of binary_form.Or = truth
result_of binary_form.And = truth
result_of binary_form.Eq = truth
result_of binary_form.Ne = truth
result_of binary_form.Lt = truth
result_of binary_form.Le = truth
result_of binary_form.Gt = truth
result_of binary_form.Ge = truth
result_of binary_form.Add = num
result_of binary_form.Sub = num
result_of binary_form.Mul = num
result_of binary_form.Div = num
result_of binary_form.Rem = num

-- Rule 9 at two operands: each of a sort that the operator never takes is wrong; where neither is, and both
-- sorts are known and differ, the right one is.
abbrev pub wrong_operands : (Form → Bool) → Judged → Judged → List CheckFault
wrong_operands takes left right =
    wrong_sort takes left ++ wrong_sort takes right
    ++ when (accepts takes left.sort && accepts takes right.sort && not (agree left.sort right.sort)) (breaks rule.OperandSort right.first)

abbrev pub binary : BinOp → Judged → Judged → Judged
binary operator left right =
    judgement left.first (suc (max left.height right.height)) (result_of operator)
    (left.faults ++ right.faults ++ wrong_operands (takes operator) left right)

-- Operands of one level: they are nested to the left.
abbrev pub chained : Judged → List (Link (Scope → Judged)) → Scope → Judged
chained left [] scope = left
chained left (link ∷ links) scope = chained (binary link.operator left (link.operand scope)) links scope

-- The sort that a sign takes and gives.
abbrev pub unary_takes : UnaryOperator → Form → Bool
unary_takes unary_form.Minus f = is_num_form f
unary_takes unary_form.Not f = is_truth_form f

abbrev pub unary_gives : UnaryOperator → ExprSort
unary_gives unary_form.Minus = num
unary_gives unary_form.Not = truth

abbrev pub unary : UnaryOperator → ℕ → Judged → Judged
unary operator at operand =
    judgement at (suc operand.height) (unary_gives operator) (operand.faults ++ wrong_sort (unary_takes operator) operand)

abbrev pub member_found : Judged → Name → Option ExprSort → Judged
member_found whole name (Some sort) = judgement whole.first (suc whole.height) sort whole.faults
member_found whole name None = judgement whole.first (suc whole.height) expr_sort.Unknown (whole.faults ++ no_member name)

abbrev pub indexed : List Declared → Judged → Judged → Judged
indexed env whole index =
    judgement whole.first (suc (max whole.height index.height)) (element env whole.sort)
    (whole.faults ++ index.faults ++ wrong_sort is_array_form whole ++ wrong_sort is_num_form index)

abbrev pub step : List Declared → Judged → Step (Scope → Judged) → Scope → Judged
step env whole (step_form.Name name) scope = member_found whole name (member env whole.sort name.text)
step env whole (step_form.Index at index) scope = indexed env whole (index scope)

-- What stands behind an atom: it is nested to the left.
abbrev pub posted : List Declared → Judged → List (Step (Scope → Judged)) → Scope → Judged
posted env whole [] scope = whole
posted env whole (next ∷ steps) scope = posted env (step env whole next scope) steps scope

-- Brackets are no node of the tree, but its first token.
abbrev pub parenthesized : ℕ → Judged → Judged
parenthesized at inner = judgement at inner.height inner.sort inner.faults

abbrev pub pis : List Declared → ℕ → Judged → Name → Judged
pis env at value name = judgement at (suc value.height) truth (value.faults ++ no_choice env value name)

abbrev pub is_text_or_array : Form → Bool
is_text_or_array f = is_text_form f || is_array_form f

abbrev pub plen : ℕ → Judged → Judged
plen at value = judgement at (suc value.height) num (value.faults ++ wrong_sort is_text_or_array value)

abbrev pub pforall : ℕ → Judged → Judged → Judged → Judged
pforall at low high body =
    judgement at (suc (max (max low.height high.height) body.height)) truth
    (low.faults ++ high.faults ++ body.faults ++ wrong_sort is_num_form low ++ wrong_sort is_num_form high ++ no_truth body)

-- One form of expression, from its parts as they are judged in any scope.
abbrev pub judge_form : List Declared → Expr-F (Scope → Judged) → Scope → Judged
judge_form env (Expr-F.Chain first links) scope = chained (first scope) links scope
judge_form env (Expr-F.Unary operator at operand) scope = unary operator at (operand scope)
judge_form env (Expr-F.Post base steps) scope = posted env (base scope) steps scope
judge_form env (Expr-F.Number value at) scope = leaf at num
judge_form env (Expr-F.Word written) scope = leaf (place_of written) text
judge_form env (Expr-F.Truth value at) scope = leaf at truth
judge_form env (Expr-F.Name name) scope = variable scope name
judge_form env (Expr-F.Paren at inner) scope = parenthesized at (inner scope)
judge_form env (Expr-F.Pis at value name) scope = pis env at (value scope) name
judge_form env (Expr-F.Plen at value) scope = plen at (value scope)
judge_form env (Expr-F.Pforall at name low high body) scope =
    pforall at (low scope) (high scope) (body (hiding name.text num scope))

-- An expression with the declared types of its description, in a scope.
unfoldable pub judged : List Declared → Expr → Scope → Judged
judged env = fold-Expr (Scope → Judged) (judge_form env)
