-- The grammar of paths.
--
--   path = ( "$" | Name ) { "." Name | "[" Number "]" | "[" "*" "]" }
use Rattle.std.specs.Prelude.{true, false, List, [], ◌∷◌, ◌++◌}
use Rattle.pads_lex.specs.declared.token.Mark.TheVariants.{Dollar, Dot, OpenBracket, CloseBracket, Star}
use Rattle.pads_grammar.specs.declared.kind.Kind.TheVariants as kind
use Rattle.pads_grammar.specs.Grammar.{Grammar, token, mark, apply, many, ◌&◌, ◌<*◌, ◌*>◌, ◌or◌}
use Rattle.pads_syntax_expr.specs.Leaves.{name}
use Rattle.pads_syntax_path.specs.Indexes.{index_of}
use Rattle.pads_syntax_path.specs.declared.path.Path.{Path}
use Rattle.pads_syntax_path.specs.declared.path.PathStep.{PathStep}
use Rattle.pads_syntax_path.specs.declared.path.PathStep.TheVariants as step_form

-- `$`, or a name, which is a step.
unfoldable pub start : Grammar Path
start = apply (λ at. record { root = true; steps = [] }) (mark Dollar)
    or apply (λ found. record { root = false; steps = step_form.Name found.text ∷ [] }) name

abbrev pub index : Grammar PathStep
index = token kind.Number (λ t. step_form.Index (index_of t.kind))

abbrev pub each : Grammar PathStep
each = apply (λ at. step_form.Each) (mark Star)

abbrev pub named : Grammar PathStep
named = apply (λ found. step_form.Name found.text) (mark Dot *> name)

abbrev pub bracketed : Grammar PathStep
bracketed = (mark OpenBracket *> (index or each)) <* mark CloseBracket

unfoldable pub step : Grammar PathStep
step = named or bracketed

-- A path with more steps behind it.
abbrev pub going_on : Path → List PathStep → Path
going_on path steps = record { root = path.root; steps = path.steps ++ steps }

abbrev pub path : Grammar Path
path = apply (λ both. going_on both.0 both.1) (start & many step)
