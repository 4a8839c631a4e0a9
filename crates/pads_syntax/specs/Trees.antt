-- The trees of descriptions and of filters.
--
-- A description is declarations and the end token, a filter is one expression and the end token. What
-- tokens derive is said by the grammar (`Declarations`, `Types`) and its meaning (`Derives`); `Whole` adds
-- the end token, and `IsFirstFault` says at which token no tree goes on.
use Rattle.std.specs.Prelude.{◌≡◌, ℕ, Some, List, slice_get, option_map}
use Rattle.pads_lex.specs.declared.token.Token.{Token}
use Rattle.pads_grammar.specs.Kinds.{Tokens}
use Rattle.pads_grammar.specs.Whole.{Whole, IsFirstFault}
use Rattle.pads_ast.specs.declared.decl.Ast.{Ast}
use Rattle.pads_ast.specs.declared.decl.Decl.{Decl}
use Rattle.pads_ast.specs.declared.decl.ExprAst.{ExprAst}
use Rattle.pads_ast.specs.declared.expr.Expr.{Expr}
use Rattle.pads_syntax_parts.specs.Types.{expression}
use Rattle.pads_syntax.specs.Declarations.{decls}

-- What a description has: its declarations, and the place where the text ends.
abbrev pub description : List Decl → Token → List Decl × ℕ
description decls end = (decls, end.begin)

-- The tree of a filter.
abbrev pub filter : Expr → Token → ExprAst
filter expr end = record { expr = expr }

-- These tokens derive these declarations, with this place for the end of the text.
abbrev pub Derive : List Decl × ℕ → Tokens → Type 0
Derive made ts = Whole decls description made ts

-- These tokens derive this tree of a description.
abbrev pub IsTree : Ast → Tokens → Type 0
IsTree tree ts = Derive (tree.decls, tree.end) ts

-- The token of that number, from 0, is the first at which no description goes on.
abbrev pub IsTreeFault : Tokens → ℕ → Type 0
IsTreeFault ts at = IsFirstFault decls description ts at

-- These tokens derive this tree of a filter.
abbrev pub IsExprTree : ExprAst → Tokens → Type 0
IsExprTree tree ts = Whole expression filter tree ts

-- The token of that number, from 0, is the first at which no filter goes on.
abbrev pub IsExprTreeFault : Tokens → ℕ → Type 0
IsExprTreeFault ts at = IsFirstFault expression filter ts at

-- There is a token of that number, from 0, and it begins at that byte.
abbrev pub StandsAt : Tokens → ℕ → ℕ → Type 0
StandsAt ts token at = option_map (λ (t : Token). t.begin) (slice_get ts token) ≡ Some at
