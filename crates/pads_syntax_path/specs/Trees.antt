-- The paths that tokens derive, and their first fault.
use Rattle.std.specs.Prelude.{◌≡◌, ℕ, ◌+◌, ◌<◌, true, ◌++◌, length, take}
use Rattle.pads_lex.specs.declared.token.Token.{Token}
use Rattle.pads_grammar.specs.Kinds.{Tokens}
use Rattle.pads_grammar.specs.Whole.{Whole}
use Rattle.pads_syntax_path.specs.Indexes.{none_large}
use Rattle.pads_syntax_path.specs.Paths.{path}
use Rattle.pads_syntax_path.specs.declared.path.Path.{Path}

-- A path is what the tokens before its end token make.
abbrev pub before_end : Path → Token → Path
before_end path end = path

-- These tokens derive this path: by the grammar, and each number among them is an index.
abbrev pub IsPath : Path → Tokens → Type 0
IsPath tree ts = Whole path before_end tree ts × (none_large ts ≡ true)

-- Some path's tokens begin with these.
pub record BeginsPath (ts : Tokens) : Type 0 where
  pub tree : Path
  pub back : Tokens
  pub derived : IsPath tree (ts ++ back)

-- The token of that number, from 0, is the first at which no path goes on: the tokens before it begin some path's
-- tokens, and together with it they don't.
pub record IsPathFault (ts : Tokens) (at : ℕ) : Type 0 where
  pub within : at < length ts
  pub before : BeginsPath (take at ts)
  pub stops : BeginsPath (take (at + 1) ts) → ⊥
