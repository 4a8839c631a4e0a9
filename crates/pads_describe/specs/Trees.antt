-- The tree of a description's text.
use Rattle.std.specs.Prelude.{◌≡◌, ℕ, ◌≤◌, List, [], length}
use Rattle.pads_ast.specs.declared.decl.Ast.{Ast}
use Rattle.pads_grammar.specs.Kinds.{Tokens}
use Rattle.pads_lex.specs.Cut.{IsCut}
use Rattle.pads_rules.specs.Violations.{violations}
use Rattle.pads_syntax.specs.Trees.{IsTree}

-- the most bytes that a description may have
abbrev pub longest : ℕ
longest = 1048576

-- These are the tokens of a text that isn't too long.
pub record HasTokens (text : List ℕ) (tokens : Tokens) : Type 0 where
  pub short : length text ≤ longest
  pub cut : IsCut 0 text tokens

-- The text's tokens derive this tree.
pub record HasTree (text : List ℕ) (tree : Ast) : Type 0 where
  pub tokens : Tokens
  pub has_tokens : HasTokens text tokens
  pub derived : IsTree tree tokens

-- The text is accepted: its tree, which is this one, keeps all rules.
pub record IsAccepted (text : List ℕ) (tree : Ast) : Type 0 where
  pub has_tree : HasTree text tree
  pub kept : violations tree ≡ []
