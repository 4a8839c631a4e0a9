-- What private calls answer about a list of tokens.
use Rattle.std.specs.Prelude.{◌≡◌, ◌⊎◌, true, [], ◌∷◌, ◌++◌, Result, Ok, Err}
use Rattle.pads_value.specs.declared.memory.Refusal.{Refusal}
use Rattle.pads_value.specs.declared.memory.Refusal.TheVariants as refusal
use Rattle.pads_lex.specs.declared.token.Token.{Token}
use Rattle.pads_lex.specs.declared.token.TokenKind.TheVariants as token_kind
use Rattle.pads_grammar.specs.Kinds.{Tokens}
use Rattle.pads_syntax.specs.declared.fault.SyntaxFault.{SyntaxFault}
use Rattle.pads_syntax.specs.Trees.{StandsAt}
use Rattle.pads_syntax_path.specs.Indexes.{is_large, none_large}
use Rattle.pads_syntax_path.specs.Trees.{IsPath, IsPathFault}
use Rattle.pads_syntax_path.specs.declared.path.Path.{Path}

-- The path that is given is derived; the fault that is told is the first, and stands at its place.
abbrev pub Answers : Tokens → Result Path (Refusal SyntaxFault) → Type 0
Answers ts (Ok tree) = IsPath tree ts
Answers ts (Err (refusal.Fault fault)) = IsPathFault ts fault.token × StandsAt ts fault.token fault.at
Answers ts (Err refusal.Memory) = Unit {0}

-- The first tokens, all indexes, up to a number that is none, or up to the end token, which is the last.
pub record Reaches (ts us : Tokens) : Type 0 where
  pub next : Token
  pub more : Tokens
  pub whole : ts ≡ us ++ next ∷ more
  pub small : none_large us ≡ true
  pub stop : (is_large next.kind ≡ true) ⊎ ((more ≡ []) × (next.kind ≡ token_kind.End))
