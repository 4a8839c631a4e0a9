-- The grammar of a union's switch.
--
--   switch = "Pswitch" "(" expr ")" "{" { "Pcase" const ":" branch } [ "Pdefault" ":" branch ] "}"
use Rattle.pads_lex.specs.declared.token.Keyword.TheVariants.{Pcase, Pdefault, Pswitch}
use Rattle.pads_lex.specs.declared.token.Mark.TheVariants.{CloseBrace, CloseParen, Colon, OpenBrace, OpenParen}
use Rattle.pads_grammar.specs.Grammar.{Grammar, apply, optional, many, ◌&◌, ◌<*◌, ◌*>◌, mark, keyword}
use Rattle.pads_ast.specs.declared.expr.Expr.{Expr}
use Rattle.pads_ast.specs.declared.decl.Case.{Case}
use Rattle.pads_ast.specs.declared.decl.Switch.{Switch}
use Rattle.pads_ast.specs.declared.types.Branch.{Branch}
use Rattle.pads_ast.specs.declared.types.Const.{Const}
use Rattle.pads_syntax_parts.specs.Types.{expression, branch, constant}

-- A constant and its colon.
abbrev pub case_key : Grammar Const
case_key = (keyword Pcase *> constant) <* mark Colon

unfoldable pub case_rule : Grammar Case
case_rule = apply (λ both. record { key = both.0; branch = both.1 }) (case_key & branch)

abbrev pub default_case : Grammar Branch
default_case = (keyword Pdefault *> mark Colon) *> branch

-- What stands before the cases of a switch.
abbrev pub switch_value : Grammar Expr
switch_value = (((keyword Pswitch *> mark OpenParen) *> expression) <* mark CloseParen) <* mark OpenBrace

unfoldable pub switch : Grammar Switch
switch = apply (λ all. record { value = all.0.0; cases = all.0.1; default = all.1 })
    ((switch_value & many case_rule & optional default_case) <* mark CloseBrace)
