-- The grammar of what stands inside of declarations.
--
--   part   = literal ";" | "Pcompute" type Name "=" expr ";" | branch
--   where  = "Pwhere" "{" expr [ ";" ] "}"
--   option = "Psep" "(" word ")" | "Pterm" "(" literal ")" | "Plast" "(" expr ")"
--   label  = Name [ "Pfrom" "(" word ")" ]
--   constraint of a typedef = ":" Name Name "=>" "{" expr "}"
use Rattle.std.specs.Prelude.{Option, Some, None, List, [], ◌∷◌}
use Rattle.pads_lex.specs.declared.token.Keyword.TheVariants.{Pcompute, Pfrom, Plast, Psep, Pterm, Pwhere}
use Rattle.pads_lex.specs.declared.token.Mark.TheVariants.{And, Arrow, CloseBrace, CloseParen, Colon, Comma, Equals, OpenBrace, Semicolon}
use Rattle.pads_grammar.specs.declared.kind.Kind.TheVariants as kind
use Rattle.pads_grammar.specs.Grammar.{Grammar, apply, optional, rest_of, ◌&◌, ◌<*◌, ◌*>◌, ◌or◌, mark, keyword}
use Rattle.pads_grammar.specs.Lists.{listed}
use Rattle.pads_ast.specs.declared.expr.Expr.{Expr}
use Rattle.pads_ast.specs.declared.decl.ArrayOption.{ArrayOption}
use Rattle.pads_ast.specs.declared.decl.ArrayOption.TheVariants as option_form
use Rattle.pads_ast.specs.declared.decl.Constraint.{Constraint}
use Rattle.pads_ast.specs.declared.decl.Label.{Label}
use Rattle.pads_ast.specs.declared.decl.Part.{Part}
use Rattle.pads_ast.specs.declared.decl.Part.TheVariants as part_form
use Rattle.pads_ast.specs.declared.name.Name.{Name}
use Rattle.pads_ast.specs.declared.name.Word.{Word}
use Rattle.pads_ast.specs.declared.types.«Type».{«Type»}
use Rattle.pads_syntax_expr.specs.Leaves.{name, word}
use Rattle.pads_syntax_expr.specs.Expressions.{opened}
use Rattle.pads_syntax_parts.specs.Types.{expression, type_use, branch, literal}

abbrev pub literal_part : Grammar Part
literal_part = apply part_form.Literal (literal <* mark Semicolon)

-- Type, name and `=` of a computed field.
abbrev pub computed_name : Grammar («Type» × Name)
computed_name = ((keyword Pcompute *> type_use) & name) <* mark Equals

abbrev pub computed_part : Grammar Part
computed_part = apply (λ all. part_form.Pcompute all.0.0 all.0.1 all.1) ((computed_name & expression) <* mark Semicolon)

unfoldable pub part : Grammar Part
part = literal_part or computed_part or apply part_form.Field branch

-- What must be true of a whole struct or array.
unfoldable pub condition : Grammar Expr
condition = (((keyword Pwhere *> mark OpenBrace) *> expression) <* optional (mark Semicolon)) <* mark CloseBrace

abbrev pub separator : Grammar ArrayOption
separator = apply (λ both. option_form.Psep both.0 both.1) ((opened Psep & word) <* mark CloseParen)

abbrev pub terminator : Grammar ArrayOption
terminator = apply (λ both. option_form.Pterm both.0 both.1) ((opened Pterm & literal) <* mark CloseParen)

abbrev pub last_test : Grammar ArrayOption
last_test = apply (λ both. option_form.Plast both.0 both.1) ((opened Plast & expression) <* mark CloseParen)

unfoldable pub array_option : Grammar ArrayOption
array_option = separator or terminator or last_test

-- The options of an array, of which there may be none.
abbrev pub or_none : Option (List ArrayOption) → List ArrayOption
or_none None = []
or_none (Some options) = options

abbrev pub array_options : Grammar (List ArrayOption)
array_options = apply or_none (optional (mark Colon *> listed And array_option))

abbrev pub spelling : Grammar Word
spelling = (opened Pfrom *> word) <* mark CloseParen

unfoldable pub label : Grammar Label
label = apply (λ both. record { name = both.0; spelling = both.1 }) (name & optional spelling)

-- One label or more, with a comma between each two and maybe one behind the last.
unfoldable pub labels : Grammar (List Label)
labels = apply (λ both. both.0 ∷ both.1) (label & rest_of (kind.Mark Comma) label)

-- The names before the condition of a typedef's constraint.
abbrev pub refined_names : Grammar (Name × Name)
refined_names = (((mark Colon *> name) & name) <* mark Arrow) <* mark OpenBrace

unfoldable pub refinement : Grammar Constraint
refinement = apply (λ all. record { name = all.0.0; variable = all.0.1; condition = all.1 })
    ((refined_names & expression) <* mark CloseBrace)
