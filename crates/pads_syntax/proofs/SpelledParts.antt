-- The names in what stands inside of declarations.
use Rattle.std.proofs.Common.{List, ◌∷◌, ◌++◌, map, Option, Some, None}
use Rattle.pads_lex.specs.declared.token.Keyword.TheVariants.{Pcompute, Pdefault, Plast, Psep, Pswitch, Pterm, Pwhere}
use Rattle.pads_lex.specs.declared.token.Mark.TheVariants.{And, Arrow, CloseBrace, CloseParen, Colon, Comma, Equals, OpenBrace, OpenParen, Semicolon}
use Rattle.pads_grammar.specs.declared.kind.Kind.TheVariants as kind
use Rattle.pads_grammar.specs.Grammar.{optional, ◌&◌, ◌<*◌, ◌*>◌, mark, keyword}
use Rattle.pads_ast.specs.declared.decl.ArrayOption.{ArrayOption}
use Rattle.pads_ast.specs.declared.decl.ArrayOption.TheVariants as option_form
use Rattle.pads_ast.specs.declared.decl.Case.{Case}
use Rattle.pads_ast.specs.declared.decl.Constraint.{Constraint}
use Rattle.pads_ast.specs.declared.decl.Label.{Label}
use Rattle.pads_ast.specs.declared.decl.Part.{Part}
use Rattle.pads_ast.specs.declared.decl.Part.TheVariants as part_form
use Rattle.pads_ast.specs.declared.decl.Switch.{Switch}
use Rattle.pads_ast.specs.declared.decl.UnionBody.TheVariants as union_form
use Rattle.pads_ast.specs.declared.types.Branch.{Branch}
use Rattle.pads_ast.specs.Trees.{listed}
use Rattle.pads_ast.specs.NameTokens.{names_in_expr, names_in_type, names_in_branch, names_in_part, names_in_array_option, names_in_union, names_in_constraint}
use Rattle.pads_syntax_expr.specs.Leaves.{word}
use Rattle.pads_syntax_expr.specs.Expressions.{opened}
use Rattle.pads_syntax_parts.specs.Types.{literal}
use Rattle.pads_syntax_parts.specs.Parts.{literal_part, computed_name, computed_part, part, condition, separator, terminator, last_test, array_option, or_none, array_options, spelling, label, labels, refined_names, refinement}
use Rattle.pads_syntax.specs.Switches.{case_key, case_rule, switch_value, switch}
use Rattle.std.specs.List.{AllByRecursion as Each}
use Rattle.pads_syntax.proofs.SpelledExpressions.{SpelledName, SpelledExpr, keeps-name}
use Rattle.pads_syntax.proofs.Keeps.{IfThere, Keeps, keeps-any, keeps-pair, keeps-apply, keeps-first, keeps-second, keeps-either, keeps-optional, keeps-many, keeps-rest_of, keeps-listed}
use Rattle.pads_syntax.proofs.SpelledLists.{IsSpelled, AreSpelled, each-both, each-flat_map, each-map}
use Rattle.pads_syntax.proofs.SpelledTypes.{SpelledType, SpelledBranch, keeps-expression, keeps-type, keeps-branch}

abbrev pub SpelledPart : Part → Type 0
SpelledPart p = AreSpelled (names_in_part p)

keeps-literal-part : Keeps literal_part SpelledPart
keeps-literal-part = keeps-apply SpelledPart part_form.Literal (keeps-any (literal <* mark Semicolon)) (λ found none. tt)

keeps-computed-name : Keeps computed_name (λ both. SpelledType both.0 × SpelledName both.1)
keeps-computed-name = keeps-first (mark Equals) (keeps-pair (keeps-second (keyword Pcompute) keeps-type) keeps-name)

keeps-computed-part : Keeps computed_part SpelledPart
keeps-computed-part = keeps-apply SpelledPart (λ all. part_form.Pcompute all.0.0 all.0.1 all.1)
    (keeps-first (mark Semicolon) (keeps-pair keeps-computed-name keeps-expression))
    (λ all spelled. each-both IsSpelled (names_in_type all.0.0) (all.0.1.text ∷ names_in_expr all.1) spelled.0.0 (spelled.0.1, spelled.1))

pub keeps-part : Keeps part SpelledPart
unfolding part
keeps-part = keeps-either keeps-literal-part (keeps-either keeps-computed-part (keeps-apply SpelledPart part_form.Field keeps-branch (λ found spelled. spelled)))

pub keeps-condition : Keeps condition SpelledExpr
unfolding condition
keeps-condition = keeps-first (mark CloseBrace) (keeps-first (optional (mark Semicolon)) (keeps-second (keyword Pwhere *> mark OpenBrace) keeps-expression))

-- the parts of a switch
abbrev SpelledCase : Case → Type 0
SpelledCase c = SpelledBranch c.branch

keeps-case : Keeps case_rule SpelledCase
unfolding case_rule
keeps-case = keeps-apply SpelledCase (λ both. record { key = both.0; branch = both.1 }) (keeps-pair (keeps-any case_key) keeps-branch) (λ both spelled. spelled.1)

abbrev pub SpelledSwitch : Switch → Type 0
SpelledSwitch s = AreSpelled (names_in_union (union_form.Switch s))

keeps-switch-value : Keeps switch_value SpelledExpr
keeps-switch-value = keeps-first (mark OpenBrace) (keeps-first (mark CloseParen) (keeps-second (keyword Pswitch *> mark OpenParen) keeps-expression))

listed-branches : (o : Option Branch) → IfThere SpelledBranch o → Each SpelledBranch (listed o)
listed-branches None all = tt
listed-branches (Some b) all = (all, tt)

pub keeps-switch : Keeps switch SpelledSwitch
unfolding switch
keeps-switch = keeps-apply SpelledSwitch (λ all. record { value = all.0.0; cases = all.0.1; default = all.1 })
    (keeps-first (mark CloseBrace) (keeps-pair (keeps-pair keeps-switch-value (keeps-many keeps-case)) (keeps-optional (keeps-second (keyword Pdefault *> mark Colon) keeps-branch))))
    (λ all spelled. each-both IsSpelled (names_in_expr all.0.0) _ spelled.0.0
    (each-flat_map IsSpelled names_in_branch (map (λ (case : Case). case.branch) all.0.1 ++ listed all.1)
    (each-both SpelledBranch (map (λ (case : Case). case.branch) all.0.1) (listed all.1) (each-map SpelledBranch (λ (case : Case). case.branch) all.0.1 spelled.0.1) (listed-branches all.1 spelled.1))))

-- the options of an array
abbrev pub SpelledOption : ArrayOption → Type 0
SpelledOption o = AreSpelled (names_in_array_option o)

keeps-separator : Keeps separator SpelledOption
keeps-separator = keeps-apply SpelledOption (λ both. option_form.Psep both.0 both.1) (keeps-any ((opened Psep & word) <* mark CloseParen)) (λ both none. tt)

keeps-terminator : Keeps terminator SpelledOption
keeps-terminator = keeps-apply SpelledOption (λ both. option_form.Pterm both.0 both.1) (keeps-any ((opened Pterm & literal) <* mark CloseParen)) (λ both none. tt)

keeps-last-test : Keeps last_test SpelledOption
keeps-last-test = keeps-apply SpelledOption (λ both. option_form.Plast both.0 both.1)
    (keeps-first (mark CloseParen) (keeps-pair (keeps-any (opened Plast)) keeps-expression)) (λ both spelled. spelled.1)

keeps-array-option : Keeps array_option SpelledOption
unfolding array_option
keeps-array-option = keeps-either keeps-separator (keeps-either keeps-terminator keeps-last-test)

spelled-or-none : (o : Option (List ArrayOption)) → IfThere (Each SpelledOption) o → Each SpelledOption (or_none o)
spelled-or-none None all = tt
spelled-or-none (Some options) all = all

pub keeps-array-options : Keeps array_options (Each SpelledOption)
keeps-array-options = keeps-apply (Each SpelledOption) or_none (keeps-optional (keeps-second (mark Colon) (keeps-listed And keeps-array-option))) spelled-or-none

-- the labels of an enum
abbrev pub SpelledLabel : Label → Type 0
SpelledLabel l = SpelledName l.name

keeps-label : Keeps label SpelledLabel
unfolding label
keeps-label = keeps-apply SpelledLabel (λ both. record { name = both.0; spelling = both.1 }) (keeps-pair keeps-name (keeps-any (optional spelling))) (λ both spelled. spelled.0)

pub keeps-labels : Keeps labels (Each SpelledLabel)
unfolding labels
keeps-labels = keeps-apply (Each SpelledLabel) (λ both. both.0 ∷ both.1) (keeps-pair keeps-label (keeps-rest_of (kind.Mark Comma) keeps-label)) (λ both spelled. spelled)

-- the constraint of a typedef
abbrev pub SpelledConstraint : Constraint → Type 0
SpelledConstraint c = AreSpelled (names_in_constraint c)

keeps-refined-names : Keeps refined_names (λ both. SpelledName both.0 × SpelledName both.1)
keeps-refined-names = keeps-first (mark OpenBrace) (keeps-first (mark Arrow) (keeps-pair (keeps-second (mark Colon) keeps-name) keeps-name))

pub keeps-refinement : Keeps refinement SpelledConstraint
unfolding refinement
keeps-refinement = keeps-apply SpelledConstraint (λ all. record { name = all.0.0; variable = all.0.1; condition = all.1 })
    (keeps-first (mark CloseBrace) (keeps-pair keeps-refined-names keeps-expression)) (λ all spelled. (spelled.0.0, (spelled.0.1, spelled.1)))
