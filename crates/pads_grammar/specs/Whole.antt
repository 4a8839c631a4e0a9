-- Whole lists of tokens: what a grammar derives, and the end token behind it.
use Rattle.std.specs.Prelude.{◌≡◌, ℕ, ◌+◌, ◌<◌, ◌∷◌, [], ◌++◌, length, take}
use Rattle.pads_lex.specs.declared.token.Token.{Token}
use Rattle.pads_grammar.specs.declared.kind.Kind.TheVariants as kind
use Rattle.pads_grammar.specs.Kinds.{Tokens, kind_of}
use Rattle.pads_grammar.specs.Grammar.{Grammar, Derives}

-- The last token is the end token. The tokens before it derive a value; the tree is made of the value
-- and the end token.
pub record Whole {A B : Type 0} (g : Grammar A) (make : A → Token → B) (tree : B) (ts : Tokens) : Type 0 where
  pub front : Tokens
  pub end : Token
  pub value : A
  pub whole : ts ≡ front ++ end ∷ []
  pub last : kind_of end.kind ≡ kind.End
  pub derived : Derives g value front
  pub made : make value end ≡ tree

-- Some tree's tokens begin with these.
pub record Begins {A B : Type 0} (g : Grammar A) (make : A → Token → B) (ts : Tokens) : Type 0 where
  pub tree : B
  pub back : Tokens
  pub derived : Whole g make tree (ts ++ back)

-- The token of that number, from 0, is the first at which no tree goes on: the tokens before it begin
-- some tree's tokens, and together with it they don't.
pub record IsFirstFault {A B : Type 0} (g : Grammar A) (make : A → Token → B) (ts : Tokens) (at : ℕ) : Type 0 where
  pub within : at < length ts
  pub before : Begins g make (take at ts)
  pub stops : Begins g make (take (at + 1) ts) → ⊥
