-- The rules on a declaration as a whole.
use Rattle.std.specs.Prelude.{ℕ, suc, ◌+◌, nat_lt, nat_le, ◌==◌, Bool, true, false, not, ◌&&◌, ◌||◌, List, [], ◌∷◌, ◌++◌, length, map, flat_map, take, Option, Some, None, is_some, codes}
use Rattle.pads_ast.specs.declared.decl.ArrayOption.{ArrayOption}
use Rattle.pads_ast.specs.declared.decl.ArrayOption.TheVariants as array_option
use Rattle.pads_ast.specs.declared.decl.Constraint.{Constraint}
use Rattle.pads_ast.specs.declared.decl.DeclBody.{DeclBody}
use Rattle.pads_ast.specs.declared.decl.DeclBody.TheVariants as decl
use Rattle.pads_ast.specs.declared.decl.Label.{Label}
use Rattle.pads_ast.specs.declared.name.Name.{Name}
use Rattle.pads_ast.specs.declared.name.Word.{Word}
use Rattle.pads_base_names.specs.Names.{base_name}
use Rattle.pads_rules.specs.declared.fault.CheckFault.{CheckFault}
use Rattle.pads_rules.specs.declared.rule.Rule.TheVariants as rule
use Rattle.pads_rules.specs.Faults.{breaks, when, again}
use Rattle.pads_rules.specs.Judging.{place_of}
use Rattle.pads_ast.specs.NameTokens.{Names, names_in_decl}
use Rattle.pads_rules.specs.DifferentNames.{count_of_different}
use Rattle.pads_rules.specs.PieceRules.{is_source_shape}
use Rattle.pads_rules.specs.Pieces.{Site, earlier}
use Rattle.pads_rules.specs.Resolving.{declared_as}
use Rattle.pads_rules.specs.Texts.{same_text}
use Rattle.pads_ast.specs.Trees.{is_empty, name_of, params_of, param_names, inner_names, points_of, branches_of, is_precord, is_psource, is_precursive}

abbrev pub decl_name : Site → Name
decl_name site = name_of site.decl.body

-- Rule 1: a declaration's name is an earlier declaration's or a base type's.
abbrev pub name_taken : Site → List CheckFault
name_taken site =
    when (is_some (declared_as (earlier site) (decl_name site).text) || is_some (base_name (decl_name site).text)) (breaks rule.NameTaken (decl_name site).at)

abbrev pub same_name : Name → Name → Bool
same_name a b = same_text a.text b.text

abbrev pub options_of : DeclBody → List ArrayOption
options_of (decl.Array d) = d.options
options_of (decl.Struct d) = []
options_of (decl.Union d) = []
options_of (decl.Enum d) = []
options_of (decl.Typedef d) = []
options_of (decl.Opt d) = []

abbrev pub same_option : ArrayOption → ArrayOption → Bool
same_option (array_option.Psep at a) (array_option.Psep bt b) = true
same_option (array_option.Pterm at a) (array_option.Pterm bt b) = true
same_option (array_option.Plast at a) (array_option.Plast bt b) = true
same_option _ _ = false

abbrev pub option_place : ArrayOption → ℕ
option_place (array_option.Psep at separator) = at
option_place (array_option.Pterm at terminator) = at
option_place (array_option.Plast at condition) = at

-- Rule 4: the name of a parameter, field, branch or label comes again, or an array option does.
abbrev pub name_again : Site → List CheckFault
name_again site =
    again same_name (λ name. breaks rule.NameAgain name.at) [] (param_names site.decl.body ++ inner_names site.decl.body)
    ++ again same_option (λ option. breaks rule.NameAgain (option_place option)) [] (options_of site.decl.body)

abbrev pub constraint_of : DeclBody → Option Constraint
constraint_of (decl.Typedef d) = d.constraint
constraint_of (decl.Struct d) = None
constraint_of (decl.Union d) = None
constraint_of (decl.Array d) = None
constraint_of (decl.Enum d) = None
constraint_of (decl.Opt d) = None

-- Rule 11: the first name after a typedef's colon isn't its own.
abbrev pub other_name : Site → List CheckFault
other_name site = found (constraint_of site.decl.body)
  where
    found : Option Constraint → List CheckFault
    found None = []
    found (Some constraint) = when (not (same_name constraint.name (decl_name site))) (breaks rule.OtherName constraint.name.at)

abbrev pub labels_of : DeclBody → List Label
labels_of (decl.Enum d) = d.labels
labels_of (decl.Struct d) = []
labels_of (decl.Union d) = []
labels_of (decl.Array d) = []
labels_of (decl.Typedef d) = []
labels_of (decl.Opt d) = []

-- A label's spelling is its `Pfrom` text, else its name, and stands where that is written.
abbrev pub spelling_or : Name → Option Word → List ℕ × ℕ
spelling_or name (Some word) = (points_of word, place_of word)
spelling_or name None = (name.text, name.at)

abbrev pub spelling_of : Label → List ℕ × ℕ
spelling_of label = spelling_or label.name label.spelling

abbrev pub same_spelling : Label → Label → Bool
same_spelling a b = same_text (spelling_of a).0 (spelling_of b).0

-- Rule 15: an enum spelling comes again.
abbrev pub spelling_again : Site → List CheckFault
spelling_again site = again same_spelling (λ label. breaks rule.SpellingAgain (spelling_of label).1) [] (labels_of site.decl.body)

-- Rule 21: a `Precord` or `Psource` declaration has parameters.
abbrev pub marked_with_params : Site → List CheckFault
marked_with_params site = when ((is_precord site.decl.mark || is_psource site.decl.mark) && not (is_empty (params_of site.decl.body))) (breaks rule.MarkedWithParameters (decl_name site).at)

-- Rule 22: a `Psource` declaration isn't the last, or isn't a source shape.
abbrev pub misplaced_source : Site → List CheckFault
misplaced_source site =
    when (is_psource site.decl.mark && not ((suc site.number == length site.decls) && is_source_shape site)) (breaks rule.MisplacedSource (decl_name site).at)

-- The forms of declarations that may be marked `Precursive`.
abbrev pub may_recur : DeclBody → Bool
may_recur (decl.Struct d) = true
may_recur (decl.Union d) = true
may_recur (decl.Array d) = true
may_recur (decl.Enum d) = false
may_recur (decl.Typedef d) = false
may_recur (decl.Opt d) = false

-- Rule 25: `Precursive` stands before another form than `Pstruct`, `Punion` or `Parray`.
abbrev pub misplaced_precursive : Site → List CheckFault
misplaced_precursive site = when (is_precursive site.decl.mark && not (may_recur site.decl.body)) (breaks rule.MisplacedPrecursive (decl_name site).at)

-- How many parts, branches or labels a declaration has.
abbrev pub part_count : DeclBody → ℕ
part_count (decl.Struct d) = length d.parts
part_count (decl.Union d) = length (branches_of d.body)
part_count (decl.Array d) = 0
part_count (decl.Enum d) = length d.labels
part_count (decl.Typedef d) = 0
part_count (decl.Opt d) = 0

abbrev pub texts : List Name → Names
texts names = map (λ name. name.text) names

abbrev pub one_if : Bool → ℕ
one_if true = 1
one_if false = 0

-- The variable of a typedef's constraint.
abbrev pub variable_names : Option Constraint → List Name
variable_names None = []
variable_names (Some constraint) = constraint.variable ∷ []

-- How many names are in scope where all are: the different ones of the parameters and, with them, of a
-- struct's named parts, of a typedef's variable, or of an array's `elts` and `length`; and one for a branch.
abbrev pub scope_count : DeclBody → ℕ
scope_count (decl.Struct d) = count_of_different (texts (param_names (decl.Struct d)) ++ texts (inner_names (decl.Struct d)))
scope_count (decl.Union d) = count_of_different (texts (param_names (decl.Union d))) + one_if (not (is_empty (branches_of d.body)))
scope_count (decl.Array d) = count_of_different (texts (param_names (decl.Array d)) ++ codes "elts" ∷ codes "length" ∷ [])
scope_count (decl.Enum d) = 0
scope_count (decl.Typedef d) = count_of_different (texts (param_names (decl.Typedef d)) ++ texts (variable_names d.constraint))
scope_count (decl.Opt d) = count_of_different (texts (param_names (decl.Opt d)))

-- How many different name tokens the description has up to a declaration's end.
abbrev pub token_count : Site → ℕ
token_count site = count_of_different (flat_map (λ d. names_in_decl d.body) (take (suc site.number) site.decls))

-- Rule 24: a declaration is number 4,097 or later, has more than 4,096 parts, branches or labels, has more
-- than 4,096 names in scope, or the description has more than 65,000 different names up to its end.
abbrev pub too_much : Site → List CheckFault
too_much site =
    when (nat_le 4096 site.number || nat_lt 4096 (part_count site.decl.body) || nat_lt 4096 (scope_count site.decl.body) || nat_lt 65000 (token_count site))
    (breaks rule.Limit (decl_name site).at)
