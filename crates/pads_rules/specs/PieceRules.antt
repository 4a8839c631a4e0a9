-- The rules on the pieces of a declaration: each is about every piece of its kind.
use Rattle.std.specs.Prelude.{ℕ, ℤ, pos, ◌-ℤ◌, ◌==◌, Bool, true, false, not, ◌&&◌, ◌||◌, List, [], ◌∷◌, ◌++◌, length, Option, Some, None, is_some, is_none, slice_get}
use Rattle.std.specs.List.{enumerate_from}
use Rattle.std.specs.Ordering.{int_eq}
use Rattle.pads_ast.specs.declared.decl.DeclBody.{DeclBody}
use Rattle.pads_ast.specs.declared.decl.DeclBody.TheVariants as decl
use Rattle.pads_ast.specs.declared.decl.Part.{Part}
use Rattle.pads_ast.specs.declared.decl.Part.TheVariants as part
use Rattle.pads_ast.specs.declared.expr.Expr.{Expr}
use Rattle.pads_ast.specs.declared.types.Arg.{Arg}
use Rattle.pads_ast.specs.declared.types.Arg.TheVariants as arg
use Rattle.pads_ast.specs.declared.types.Const.{Const}
use Rattle.pads_ast.specs.declared.types.Const.TheVariants as const
use Rattle.pads_ast.specs.declared.types.Type.{«Type»}
use Rattle.pads_rules.specs.declared.sort.Form.{Form}
use Rattle.pads_base_names.specs.declared.meaning.BaseName.{BaseName}
use Rattle.pads_base_names.specs.declared.meaning.BaseName.TheVariants as base
use Rattle.pads_base_names.specs.declared.meaning.NamedCoding.TheVariants as coding
use Rattle.pads_base_names.specs.declared.meaning.Takes.{Takes}
use Rattle.pads_base_names.specs.declared.meaning.Takes.TheVariants as takes_form
use Rattle.pads_base_names.specs.Names.{takes}
use Rattle.pads_rules.specs.declared.declared.Declared.{Declared}
use Rattle.pads_rules.specs.declared.expr_sort.ExprSort.{ExprSort}
use Rattle.pads_rules.specs.declared.fault.CheckFault.{CheckFault}
use Rattle.pads_rules.specs.declared.rule.Rule.{Rule}
use Rattle.pads_rules.specs.declared.rule.Rule.TheVariants as rule
use Rattle.pads_rules.specs.Faults.{breaks, when, each, again}
use Rattle.pads_rules.specs.Judging.{Scope, Judged, judged, wrong_sort, no_truth, place_of}
use Rattle.pads_rules.specs.Pieces.{Site, sight, Piece, Used, OfParam, Computed, Condition, Size, Choice, Spelled}
use Rattle.pads_rules.specs.Resolving.{Sight, Meaning, Base, Known, Undeclared, meaning, plain_meaning, type_sort, declared_as, is_precord_type, is_record_list_type, is_record_list}
use Rattle.pads_rules.specs.Sorts.{num, text, accepts, agree, is_num_form, is_text_form}
use Rattle.pads_rules.specs.Texts.{same_text}
use Rattle.pads_ast.specs.Trees.{is_empty, args_of, points_of, is_psource, written}

-- The type that a piece names.
abbrev pub type_in : Piece → Option «Type»
type_in (Used scope t) = Some t
type_in (OfParam t) = Some t
type_in (Computed scope t value) = Some t
type_in (Condition scope e) = None
type_in (Size scope e) = None
type_in (Choice scope e constants) = None
type_in (Spelled word) = None

-- The meaning of a type's name where it stands.
abbrev pub meaning_at : Site → «Type» → Meaning
meaning_at site t = meaning (sight site) t.name.text

-- A rule about every type name.
abbrev pub at_type_name : (Site → «Type» → Bool) → Rule → Site → Piece → List CheckFault
at_type_name breaks_it broken site piece = found (type_in piece)
  where
    found : Option «Type» → List CheckFault
    found None = []
    found (Some t) = when (breaks_it site t) (breaks broken t.name.at)

abbrev pub is_undeclared : Meaning → Bool
is_undeclared (Base base) = false
is_undeclared (Known declared) = false
is_undeclared Undeclared = true

-- A type name is that of a declaration, wherever that stands.
abbrev pub is_declared : Site → «Type» → Bool
is_declared site t = is_some (declared_as site.env t.name.text)

-- Rule 2: a type name is neither a base type nor a declaration.
abbrev pub unknown_type : Site → Piece → List CheckFault
unknown_type = at_type_name (λ site t. is_undeclared (meaning_at site t) && not (is_declared site t)) rule.UnknownType

-- Rule 3: a type name is that of this or a later declaration that isn't marked `Precursive`: a declaration has it, and
-- yet it names none here.
abbrev pub later_type : Site → Piece → List CheckFault
later_type = at_type_name (λ site t. is_undeclared (meaning_at site t) && is_declared site t) rule.LaterType

-- The number of arguments that a base type takes.
abbrev pub takes_so_many : Takes → ℕ → Bool
takes_so_many takes_form.Nothing n = n == 0
takes_so_many takes_form.Number n = n == 1
takes_so_many takes_form.NumberOrNothing n = (n == 0) || (n == 1)
takes_so_many takes_form.Text n = n == 1
takes_so_many takes_form.TextOrEnd n = n == 1

-- The number of arguments is the type's. Of a type that may not be named any number is.
abbrev pub is_count_of : Meaning → ℕ → Bool
is_count_of (Base base) n = takes_so_many (takes base) n
is_count_of (Known declared) n = n == length declared.params
is_count_of Undeclared n = true

-- Rule 7: the number of arguments isn't the type's.
abbrev pub argument_count : Site → Piece → List CheckFault
argument_count site (Used scope t) = when (not (is_count_of (meaning_at site t) (length (args_of t)))) (breaks rule.ArgumentCount t.name.at)
argument_count site (OfParam t) = []
argument_count site (Computed scope t value) = []
argument_count site (Condition scope e) = []
argument_count site (Size scope e) = []
argument_count site (Choice scope e constants) = []
argument_count site (Spelled word) = []

abbrev pub base_params : Takes → List ExprSort
base_params takes_form.Nothing = []
base_params takes_form.Number = num ∷ []
base_params takes_form.NumberOrNothing = num ∷ []
base_params takes_form.Text = text ∷ []
base_params takes_form.TextOrEnd = text ∷ []

-- The sorts of a type's parameters.
abbrev pub params_in : Meaning → List ExprSort
params_in (Base base) = base_params (takes base)
params_in (Known declared) = declared.params
params_in Undeclared = []

abbrev pub takes_end : Meaning → Bool
takes_end (Base base) = is_until (takes base)
  where
    is_until : Takes → Bool
    is_until takes_form.TextOrEnd = true
    is_until takes_form.Nothing = false
    is_until takes_form.Number = false
    is_until takes_form.NumberOrNothing = false
    is_until takes_form.Text = false
takes_end (Known declared) = false
takes_end Undeclared = false

abbrev pub agrees_with : Option ExprSort → ExprSort → Bool
agrees_with None sort = true
agrees_with (Some param) sort = agree param sort

-- Rule 8 at one argument: its sort isn't the parameter's, or it is `Peor` where none may stand.
abbrev pub argument_sort : List Declared → Scope → Meaning → ℕ → ℕ × Arg → List CheckFault
argument_sort env scope m count numbered = by_form numbered.1
  where
    at_sort : Judged → List CheckFault
    at_sort j = when (not (agrees_with (slice_get (params_in m) numbered.0) j.sort)) (breaks rule.ArgumentSort j.first)

    by_form : Arg → List CheckFault
    by_form (arg.Expr e) = at_sort (judged env e scope)
    by_form (arg.Peor at) = when (not (takes_end m && (count == 1))) (breaks rule.ArgumentSort at)

-- Rule 8: an argument's sort isn't the parameter's, or `Peor` is other than the one argument of a text up to
-- a stop.
abbrev pub argument_sorts : Site → Piece → List CheckFault
argument_sorts site (Used scope t) =
    each (argument_sort site.env scope (meaning_at site t) (length (args_of t))) (enumerate_from 0 (args_of t))
argument_sorts site (OfParam t) = []
argument_sorts site (Computed scope t value) = []
argument_sorts site (Condition scope e) = []
argument_sorts site (Size scope e) = []
argument_sorts site (Choice scope e constants) = []
argument_sorts site (Spelled word) = []

-- Rule 9: an array's size isn't a number.
abbrev pub size_sort : Site → Piece → List CheckFault
size_sort site (Size scope e) = wrong_sort is_num_form (judged site.env e scope)
size_sort site (Used scope t) = []
size_sort site (OfParam t) = []
size_sort site (Computed scope t value) = []
size_sort site (Condition scope e) = []
size_sort site (Choice scope e constants) = []
size_sort site (Spelled word) = []

-- Rule 10: a constraint, `Pwhere` or `Plast` isn't a truth value.
abbrev pub condition_sort : Site → Piece → List CheckFault
condition_sort site (Condition scope e) = no_truth (judged site.env e scope)
condition_sort site (Used scope t) = []
condition_sort site (OfParam t) = []
condition_sort site (Computed scope t value) = []
condition_sort site (Size scope e) = []
condition_sort site (Choice scope e constants) = []
condition_sort site (Spelled word) = []

abbrev pub const_sort : Const → ExprSort
const_sort (const.Number negative value at) = num
const_sort (const.Word word) = text

abbrev pub const_place : Const → ℕ
const_place (const.Number negative value at) = at
const_place (const.Word word) = place_of word

abbrev pub is_num_or_text : Form → Bool
is_num_or_text f = is_num_form f || is_text_form f

-- Rule 12: a switch's expression is neither a number nor a text, or a case constant has another sort than it.
abbrev pub case_sorts : Site → Piece → List CheckFault
case_sorts site (Choice scope e constants) = against (judged site.env e scope)
  where
    against : Judged → List CheckFault
    against j =
        when (not (accepts is_num_or_text j.sort)) (breaks rule.CaseSort j.first)
        ++ each (λ constant. when (not (agree j.sort (const_sort constant))) (breaks rule.CaseSort (const_place constant))) constants
case_sorts site (Used scope t) = []
case_sorts site (OfParam t) = []
case_sorts site (Computed scope t value) = []
case_sorts site (Condition scope e) = []
case_sorts site (Size scope e) = []
case_sorts site (Spelled word) = []

-- The number of a constant.
abbrev pub signed : Bool → ℕ → ℤ
signed true value = pos 0 -ℤ pos value
signed false value = pos value

-- Two constants are the same by value.
abbrev pub same_const : Const → Const → Bool
same_const (const.Number a_negative a at) (const.Number b_negative b bt) = int_eq (signed a_negative a) (signed b_negative b)
same_const (const.Word a) (const.Word b) = same_text (points_of a) (points_of b)
same_const _ _ = false

-- Rule 13: a case constant comes again.
abbrev pub case_again : Site → Piece → List CheckFault
case_again site (Choice scope e constants) = again same_const (λ constant. breaks rule.CaseAgain (const_place constant)) [] constants
case_again site (Used scope t) = []
case_again site (OfParam t) = []
case_again site (Computed scope t value) = []
case_again site (Condition scope e) = []
case_again site (Size scope e) = []
case_again site (Spelled word) = []

-- Rule 14: a literal, separator, terminator or enum spelling is empty.
abbrev pub empty_literal : Site → Piece → List CheckFault
empty_literal site (Spelled word) = when (is_empty (points_of word)) (breaks rule.EmptyLiteral (place_of word))
empty_literal site (Used scope t) = []
empty_literal site (OfParam t) = []
empty_literal site (Computed scope t value) = []
empty_literal site (Condition scope e) = []
empty_literal site (Size scope e) = []
empty_literal site (Choice scope e constants) = []

-- The base types that a computed field may have: integers in digits, in the ambient coding and without a
-- width, and the ambient text up to a stop.
abbrev pub is_computable_base : BaseName → Bool
is_computable_base (base.Int coding.Ambient kind) = true
is_computable_base (base.Until coding.Ambient) = true
is_computable_base _ = false

-- A parameter may be one character as well.
abbrev pub is_param_base : BaseName → Bool
is_param_base (base.Char coding.Ambient) = true
is_param_base name = is_computable_base name

abbrev pub is_base : (BaseName → Bool) → Meaning → Bool
is_base test (Base name) = test name
is_base test (Known declared) = false
is_base test Undeclared = false

-- A type is one of some base types, not behind `Popt` and without arguments.
abbrev pub is_bare : (BaseName → Bool) → Site → «Type» → Bool
is_bare test site t = is_base test (plain_meaning (sight site) t) && is_empty (args_of t)

-- Rule 18: the type of a computed field isn't one that may be computed, or its value has another sort.
abbrev pub computed_type : Site → Piece → List CheckFault
computed_type site (Computed scope t value) =
    when (not (is_bare is_computable_base site t) || not (agree (type_sort (sight site) t) (judged site.env value scope).sort))
    (breaks rule.ComputedType t.name.at)
computed_type site (Used scope t) = []
computed_type site (OfParam t) = []
computed_type site (Condition scope e) = []
computed_type site (Size scope e) = []
computed_type site (Choice scope e constants) = []
computed_type site (Spelled word) = []

-- Rule 19: a parameter's type isn't one that a parameter may have.
abbrev pub param_type : Site → Piece → List CheckFault
param_type site (OfParam t) = when (not (is_bare is_param_base site t)) (breaks rule.ParameterType t.name.at)
param_type site (Used scope t) = []
param_type site (Computed scope t value) = []
param_type site (Condition scope e) = []
param_type site (Size scope e) = []
param_type site (Choice scope e constants) = []
param_type site (Spelled word) = []

-- A part is a field without a constraint whose type is of a kind.
abbrev pub is_plain_field : Sight → (Meaning → Bool) → Part → Bool
is_plain_field types test (part.Field branch) = is_none branch.constraint && test (plain_meaning types branch.of)
is_plain_field types test (part.Literal literal) = false
is_plain_field types test (part.Pcompute of name value) = false

abbrev pub are_header_and_list : Sight → List Part → Bool
are_header_and_list types (header ∷ list ∷ []) = is_plain_field types is_precord_type header && is_plain_field types is_record_list_type list
are_header_and_list types _ = false

-- A struct of a header and a record list, and nothing else.
abbrev pub is_header_shape : Sight → DeclBody → Bool
is_header_shape types (decl.Struct d) = is_empty (written d.params) && is_none d.condition && are_header_and_list types d.parts
is_header_shape types (decl.Union d) = false
is_header_shape types (decl.Array d) = false
is_header_shape types (decl.Enum d) = false
is_header_shape types (decl.Typedef d) = false
is_header_shape types (decl.Opt d) = false

-- A source shape: a record list, marked or not, or a marked struct of a header and a record list.
abbrev pub is_source_shape : Site → Bool
is_source_shape site =
    is_record_list (sight site) site.decl || (is_psource site.decl.mark && is_header_shape (sight site) site.decl.body)

-- Rule 20: a `Precord` type or a record list is named outside a source shape.
abbrev pub record_type_named : Site → Piece → List CheckFault
record_type_named =
    at_type_name (λ site t. (is_precord_type (meaning_at site t) || is_record_list_type (meaning_at site t)) && not (is_source_shape site)) rule.RecordTypeNamed

-- The violations that an expression holds.
abbrev pub faults_of : Site → Scope → Expr → List CheckFault
faults_of site scope e = (judged site.env e scope).faults

abbrev pub argument_faults : Site → Scope → Arg → List CheckFault
argument_faults site scope (arg.Expr e) = faults_of site scope e
argument_faults site scope (arg.Peor at) = []

-- Rules 5, 6, 9, 10, 16, 17 and 24 in expressions. The arguments of the type of a parameter or a computed
-- field aren't asked for.
abbrev pub in_expressions : Site → Piece → List CheckFault
in_expressions site (Used scope t) = each (argument_faults site scope) (args_of t)
in_expressions site (OfParam t) = []
in_expressions site (Computed scope t value) = faults_of site scope value
in_expressions site (Condition scope e) = faults_of site scope e
in_expressions site (Size scope e) = faults_of site scope e
in_expressions site (Choice scope e constants) = faults_of site scope e
in_expressions site (Spelled word) = []
