-- The grammar of the parts that declarations share: types and their arguments, parameters, branches,
-- literals and constants.
--
--   type    = [ "Popt" ] Name [ "(:" arg { "," arg } ":)" ]
--   arg     = "Peor" | expr
--   params  = "(:" type Name { "," type Name } ":)"
--   branch  = type Name [ ":" expr ] ";"
--   literal = word | "Peor"
--   const   = [ "-" ] Number | word
use Rattle.std.specs.Prelude.{ℕ, Bool, true, false, Option, Some, None, List}
use Rattle.pads_lex.specs.declared.token.Keyword.TheVariants.{Peor, Popt}
use Rattle.pads_lex.specs.declared.token.Mark.TheVariants.{CloseParams, Colon, Comma, Minus, OpenParams, Semicolon}
use Rattle.pads_grammar.specs.declared.kind.Kind.TheVariants as kind
use Rattle.pads_grammar.specs.Grammar.{Grammar, token, apply, optional, ◌&◌, ◌<*◌, ◌*>◌, ◌or◌, mark, keyword}
use Rattle.pads_grammar.specs.Lists.{listed}
use Rattle.pads_ast.specs.declared.expr.Expr.{Expr}
use Rattle.pads_ast.specs.declared.types.Arg.{Arg}
use Rattle.pads_ast.specs.declared.types.Arg.TheVariants as arg_form
use Rattle.pads_ast.specs.declared.types.Branch.{Branch}
use Rattle.pads_ast.specs.declared.types.Const.{Const}
use Rattle.pads_ast.specs.declared.types.Const.TheVariants as const_form
use Rattle.pads_ast.specs.declared.types.Literal.{Literal}
use Rattle.pads_ast.specs.declared.types.Literal.TheVariants as literal_form
use Rattle.pads_ast.specs.declared.types.Param.{Param}
use Rattle.pads_ast.specs.declared.types.«Type».{«Type»}
use Rattle.pads_syntax_expr.specs.Leaves.{name, word, number}
use Rattle.pads_syntax_expr.specs.Expressions.{expr}

-- An expression that stands in no other: it has at most 64 levels of nesting.
unfoldable pub expression : Grammar Expr
expression = expr 64

unfoldable pub arg : Grammar Arg
arg = token (kind.Keyword Peor) (λ t. arg_form.Peor t.begin) or apply arg_form.Expr expression

-- The arguments of a type between their brackets.
abbrev pub args : Grammar (List Arg)
args = (mark OpenParams *> listed Comma arg) <* mark CloseParams

-- A type where it is used.
unfoldable pub type_use : Grammar «Type»
type_use = apply (λ all. record { optional = all.0.0; name = all.0.1; args = all.1 })
    (optional (keyword Popt) & name & optional args)

unfoldable pub param : Grammar Param
param = apply (λ both. record { of = both.0; name = both.1 }) (type_use & name)

-- The parameters of a declaration between their brackets.
abbrev pub params : Grammar (List Param)
params = (mark OpenParams *> listed Comma param) <* mark CloseParams

-- What must be true of a field or branch.
abbrev pub constraint : Grammar (Option Expr)
constraint = optional (mark Colon *> expression)

unfoldable pub branch : Grammar Branch
branch = apply (λ all. record { of = all.0.0; name = all.0.1; constraint = all.1 })
    ((type_use & name & constraint) <* mark Semicolon)

unfoldable pub literal : Grammar Literal
literal = apply literal_form.Word word or token (kind.Keyword Peor) (λ t. literal_form.Peor t.begin)

-- Whether a sign stands before a number, and where the two begin.
abbrev pub is_negative : Option ℕ → Bool
is_negative None = false
is_negative (Some sign) = true

abbrev pub first_place : Option ℕ → ℕ → ℕ
first_place None at = at
first_place (Some sign) at = sign

abbrev pub number_const : Grammar Const
number_const = apply (λ both. const_form.Number (is_negative both.0) both.1.0 (first_place both.0 both.1.1))
    (optional (mark Minus) & number)

unfoldable pub constant : Grammar Const
constant = number_const or apply const_form.Word word
