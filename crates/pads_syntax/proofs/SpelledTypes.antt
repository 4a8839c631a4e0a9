-- The names in the parts that declarations share.
use Rattle.std.proofs.Common.{[], ◌∷◌}
use Rattle.pads_lex.specs.declared.token.Keyword.TheVariants.{Peor, Popt}
use Rattle.pads_lex.specs.declared.token.Mark.TheVariants.{CloseParams, Colon, Comma, OpenParams, Semicolon}
use Rattle.pads_grammar.specs.declared.kind.Kind.TheVariants as kind
use Rattle.pads_grammar.specs.Grammar.{optional, mark, keyword}
use Rattle.pads_ast.specs.declared.types.Arg.{Arg}
use Rattle.pads_ast.specs.declared.types.Arg.TheVariants as arg_form
use Rattle.pads_ast.specs.declared.types.Branch.{Branch}
use Rattle.pads_ast.specs.declared.types.Param.{Param}
use Rattle.pads_ast.specs.declared.types.Type.{«Type»}
use Rattle.pads_ast.specs.NameTokens.{names_in_expr, names_in_option, names_in_arg, names_in_type, names_in_param, names_in_branch}
use Rattle.pads_syntax_parts.specs.Types.{expression, arg, args, type_use, param, params, constraint, branch}
use Rattle.std.specs.List.{AllByRecursion as Each}
use Rattle.pads_syntax.proofs.SpelledExpressions.{SpelledExpr, keeps-name, keeps-expr}
use Rattle.pads_syntax.proofs.Keeps.{IfThere, Keeps, keeps-token, keeps-any, keeps-pair, keeps-apply, keeps-first, keeps-second, keeps-either, keeps-optional, keeps-listed}
use Rattle.pads_syntax.proofs.SpelledLists.{IsSpelled, AreSpelled, each-both, each-written, each-listed}

pub keeps-expression : Keeps expression SpelledExpr
unfolding expression
keeps-expression = keeps-expr 64

abbrev SpelledArg : Arg → Type 0
SpelledArg a = AreSpelled (names_in_arg a)

keeps-arg : Keeps arg SpelledArg
unfolding arg
keeps-arg = keeps-either (keeps-token SpelledArg (kind.Keyword Peor) (λ t. arg_form.Peor t.begin) (λ t is fine. tt)) (keeps-apply SpelledArg arg_form.Expr keeps-expression (λ e spelled. spelled))

keeps-args : Keeps args (Each SpelledArg)
keeps-args = keeps-first (mark CloseParams) (keeps-second (mark OpenParams) (keeps-listed Comma keeps-arg))

abbrev pub SpelledType : «Type» → Type 0
SpelledType t = AreSpelled (names_in_type t)

pub keeps-type : Keeps type_use SpelledType
unfolding type_use
keeps-type = keeps-apply SpelledType (λ all. record { optional = all.0.0; name = all.0.1; args = all.1 })
    (keeps-pair (keeps-pair (keeps-any (optional (keyword Popt))) keeps-name) (keeps-optional keeps-args))
    (λ all spelled. (spelled.0.1, each-written IsSpelled names_in_arg all.1 spelled.1))

abbrev pub SpelledParam : Param → Type 0
SpelledParam p = AreSpelled (names_in_param p)

keeps-param : Keeps param SpelledParam
unfolding param
keeps-param = keeps-apply SpelledParam (λ both. record { of = both.0; name = both.1 }) (keeps-pair keeps-type keeps-name)
    (λ both spelled. each-both IsSpelled (names_in_type both.0) (both.1.text ∷ []) spelled.0 (spelled.1, tt))

pub keeps-params : Keeps params (Each SpelledParam)
keeps-params = keeps-first (mark CloseParams) (keeps-second (mark OpenParams) (keeps-listed Comma keeps-param))

abbrev pub SpelledBranch : Branch → Type 0
SpelledBranch b = AreSpelled (names_in_branch b)

keeps-constraint : Keeps constraint (IfThere SpelledExpr)
keeps-constraint = keeps-optional (keeps-second (mark Colon) keeps-expression)

pub keeps-branch : Keeps branch SpelledBranch
unfolding branch
keeps-branch = keeps-apply SpelledBranch (λ all. record { of = all.0.0; name = all.0.1; constraint = all.1 })
    (keeps-first (mark Semicolon) (keeps-pair (keeps-pair keeps-type keeps-name) keeps-constraint))
    (λ all spelled. each-both IsSpelled (names_in_type all.0.0) (all.0.1.text ∷ names_in_option all.1) spelled.0.0 (spelled.0.1, each-listed IsSpelled names_in_expr all.1 spelled.1))
