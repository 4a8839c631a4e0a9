-- What a call of `lex` answers.
use Rattle.std.specs.Prelude.{◌≡◌, ℕ, ℤ, pos, ◌≤ℤ◌, true, List, [], ◌∷◌}
use Rattle.pads_lex.specs.Spelling.{is_name}
use Rattle.pads_lex.specs.declared.token.Token.{Token}
use Rattle.pads_lex.specs.declared.token.TokenKind.TheVariants as kind

-- The last token is the end token.
abbrev pub EndsLast : List Token → Type 0
EndsLast [] = ⊥
EndsLast (token ∷ []) = token.kind ≡ kind.End
EndsLast (token ∷ next ∷ tokens) = EndsLast (next ∷ tokens)

-- No number among the tokens is below 0.
abbrev pub HasNoNegative : List Token → Type 0
HasNoNegative [] = Unit {0}
HasNoNegative (token ∷ tokens) = ((number : ℤ) → token.kind ≡ kind.Number number → pos 0 ≤ℤ number) × HasNoNegative tokens

-- Each name among the tokens is spelled as a name.
abbrev pub HasSpelledNames : List Token → Type 0
HasSpelledNames [] = Unit {0}
HasSpelledNames (token ∷ tokens) = ((word : List ℕ) → token.kind ≡ kind.Name word → is_name word ≡ true) × HasSpelledNames tokens
