-- What is told of the pieces of a declaration: the least violation of the rules at each.
use Rattle.std.specs.Prelude.{ℕ, not, List, [], ◌++◌, length, map, Option, slice_get}
use Rattle.std.specs.List.{enumerate_from}
use Rattle.pads_ast.specs.declared.decl.Case.{Case}
use Rattle.pads_ast.specs.declared.expr.Expr.{Expr}
use Rattle.pads_ast.specs.declared.name.Word.{Word}
use Rattle.pads_ast.specs.declared.types.Arg.{Arg}
use Rattle.pads_ast.specs.declared.types.Const.{Const}
use Rattle.pads_ast.specs.declared.types.Type.{«Type»}
use Rattle.pads_rules.specs.declared.declared.Declared.{Declared}
use Rattle.pads_rules.specs.declared.expr_sort.ExprSort.{ExprSort}
use Rattle.pads_rules.specs.declared.fault.CheckFault.{CheckFault}
use Rattle.pads_rules.specs.declared.rule.Rule.TheVariants as rule
use Rattle.pads_rules.specs.Faults.{breaks, when, each, again, lesser, least}
use Rattle.pads_rules.specs.Judging.{Scope, judged, place_of}
use Rattle.pads_rules.specs.PieceRules.{unknown_type, later_type, is_count_of, meaning_at, argument_sort, argument_faults, agrees_with, params_in, record_type_named, const_sort, const_place, same_const}
use Rattle.pads_rules.specs.Pieces as pieces
use Rattle.pads_rules.specs.Pieces.{Piece, OfParam}
use Rattle.pads_rules.specs.Resolving.{Meaning}
use Rattle.pads_rules.specs.Sorts.{agree}
use Rattle.pads_ast.specs.Trees.{is_empty, args_of, points_of}
use Rattle.pads_rules.specs.SiteFaults.{piece_faults}
use Rattle.pads_piece_rules.specs.declared.site.Site.{Site}

-- The place that a borrowed one stands for.
abbrev pub stands : Site → pieces.Site
stands site = record { decls = site.decls.now; env = site.env.now; number = site.number; decl = site.decl.now }

abbrev pub keys_of : List Case → List Const
keys_of cases = map (λ case. case.key) cases

-- All rules at a piece.
unfoldable pub piece_told : pieces.Site → Piece → Option CheckFault
piece_told site piece = least (piece_faults site piece)

-- Rules 2 and 3 at a type's name.
unfoldable pub name_told : pieces.Site → «Type» → Option CheckFault
name_told site t = lesser (least (unknown_type site (OfParam t))) (least (later_type site (OfParam t)))

-- Rule 7 at a type's name.
unfoldable pub count_told : pieces.Site → «Type» → Option CheckFault
count_told site t = least (when (not (is_count_of (meaning_at site t) (length (args_of t)))) (breaks rule.ArgumentCount t.name.at))

-- Rule 20 at a type's name.
unfoldable pub record_told : pieces.Site → «Type» → Option CheckFault
record_told site t = least (record_type_named site (OfParam t))

-- An expression as an argument: the rules in it, and rule 8.
abbrev pub expression_told : List Declared → Scope → Meaning → ℕ → Expr → Option CheckFault
expression_told env scope m number e =
    lesser (least (judged env e scope).faults)
    (least (when (not (agrees_with (slice_get (params_in m) number) (judged env e scope).sort)) (breaks rule.ArgumentSort (judged env e scope).first)))

-- The rules at one of so many arguments, by its number.
abbrev pub at_argument : pieces.Site → Scope → Meaning → ℕ → ℕ × Arg → List CheckFault
at_argument site scope m count numbered = argument_faults site scope numbered.1 ++ argument_sort site.env scope m count numbered

unfoldable pub argument_told : pieces.Site → Scope → Meaning → ℕ → ℕ → Arg → Option CheckFault
argument_told site scope m count number a = least (at_argument site scope m count (number, a))

unfoldable pub arguments_told : pieces.Site → Scope → «Type» → Option CheckFault
arguments_told site scope t = least (each (at_argument site scope (meaning_at site t) (length (args_of t))) (enumerate_from 0 (args_of t)))

-- Rule 12 at a constant.
abbrev pub at_key : ExprSort → Const → List CheckFault
at_key sort key = when (not (agree sort (const_sort key))) (breaks rule.CaseSort (const_place key))

unfoldable pub keys_told : ExprSort → List Const → Option CheckFault
keys_told sort keys = least (each (at_key sort) keys)

-- Rule 13.
unfoldable pub again_told : List Const → Option CheckFault
again_told keys = least (again same_const (λ key. breaks rule.CaseAgain (const_place key)) [] keys)

-- Rule 14.
unfoldable pub spelled_told : Word → Option CheckFault
spelled_told word = least (when (is_empty (points_of word)) (breaks rule.EmptyLiteral (place_of word)))
