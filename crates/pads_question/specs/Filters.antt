-- Filters of the nodes of a path. A filter is an expression with one name in scope: `it`, the node's value. It is
-- judged and resolved as the expressions of descriptions are.
use Rattle.std.specs.Prelude.{ℕ, Bool, List, [], ◌∷◌, ◌++◌, option_map, slice_get, codes}
use Rattle.std.specs.List.{fold}
use Rattle.pads_ast.specs.declared.decl.Decl.{Decl}
use Rattle.pads_ast.specs.declared.expr.Expr.{Expr as Tree}
use Rattle.pads_value.specs.declared.value.Val.{Val}
use Rattle.pads_expr.specs.declared.expr.Expr.{Expr}
use Rattle.pads_expr.specs.Value.{value}
use Rattle.pads_expr.specs.Worth.{worth_or_none, is_true}
use Rattle.pads_rules.specs.declared.declared.Declared.{Declared}
use Rattle.pads_rules.specs.declared.expr_sort.ExprSort.{ExprSort}
use Rattle.pads_rules.specs.declared.fault.CheckFault.{CheckFault}
use Rattle.pads_rules.specs.Judging.{Scope, Judged, judged, no_truth}
use Rattle.pads_rules.specs.Members.{member, element}
use Rattle.pads_resolution.specs.declared.visible.Stands.TheVariants as stands
use Rattle.pads_resolution.specs.Expressions.{expr_of, sort_or_unknown}
use Rattle.pads_resolution.specs.Scopes.{NameScope, name_as}
use Rattle.pads_syntax_path.specs.declared.path.PathStep.{PathStep}
use Rattle.pads_syntax_path.specs.declared.path.PathStep.TheVariants as path
use Rattle.pads_question.specs.Levels.{levelled}

-- The name of a node's value.
abbrev pub it : List ℕ
it = codes "it"

-- The sort that a step of a path gives: what the same name or index gives in an expression.
abbrev pub step_sort : List Declared → ExprSort → PathStep → ExprSort
step_sort env sort (path.Name text) = sort_or_unknown (member env sort text)
step_sort env sort (path.Index number) = element env sort
step_sort env sort path.Each = element env sort

-- The sort of a record type, by its declaration's number.
abbrev pub record_sort : List Declared → ℕ → ExprSort
record_sort env number = sort_or_unknown (option_map (λ declared. declared.sort) (slice_get env number))

-- The sort of the nodes of a path.
unfoldable pub node_sort : List Declared → ℕ → List PathStep → ExprSort
node_sort env number steps = fold (step_sort env) (record_sort env number) steps

-- `it` alone is in scope.
abbrev pub it_alone : ExprSort → Scope
it_alone sort = record { visible = record { text = it; sort = sort } ∷ []; later = [] }

abbrev pub faults_of : Judged → List CheckFault
faults_of judgement = judgement.faults ++ no_truth judgement

-- The violations of a filter: those that it holds, and that it is no truth value.
unfoldable pub filter_faults : List Declared → ExprSort → Tree → List CheckFault
filter_faults env sort e = faults_of (judged env e (it_alone sort))

-- The same name as resolving knows it.
abbrev pub it_named : ExprSort → NameScope
it_named sort = name_as it stands.Variable sort ∷ []

-- What a filter resolves to, in the expressions that records are read by.
unfoldable pub filter_of : List Decl → List Declared → ExprSort → Tree → Expr
filter_of decls env sort e = levelled (expr_of decls env (it_named sort) e) (it ∷ [])

-- A filter is true of a value. One without a value isn't.
unfoldable pub holds : Expr → Val → Bool
holds e v = is_true (worth_or_none (value e ((0, v) ∷ [])))
