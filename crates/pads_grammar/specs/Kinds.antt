-- The kinds of tokens: what the grammar decides by.
use Rattle.std.specs.Prelude.{◌≡◌, ℤ, pos, negsuc, Bool, true, false, List, [], ◌∷◌, ◌++◌, map, refl}
use denote.Enum.Bare.{sameb}
use Rattle.pads_lex.specs.Words.{keywords, marks}
use Rattle.pads_lex.specs.contracts.token.Keyword.{the_type as keyword_type}
use Rattle.pads_lex.specs.contracts.token.Mark.{the_type as mark_type}
use Rattle.pads_lex.specs.declared.token.Token.{Token}
use Rattle.pads_lex.specs.declared.token.TokenKind.{TokenKind}
use Rattle.pads_lex.specs.declared.token.TokenKind.TheVariants as token
use Rattle.pads_grammar.specs.declared.kind.Kind.{Kind}
use Rattle.pads_grammar.specs.declared.kind.Kind.TheVariants as kind

-- A number below 0 has a kind of its own.
abbrev pub kind_of_number : ℤ → Kind
kind_of_number (pos n) = kind.Number
kind_of_number (negsuc n) = kind.Negative

abbrev pub kind_of : TokenKind → Kind
kind_of (token.Keyword keyword) = kind.Keyword keyword
kind_of (token.Mark mark) = kind.Mark mark
kind_of (token.Name carried) = kind.Name
kind_of (token.Number n) = kind_of_number n
kind_of (token.Char carried) = kind.Char
kind_of (token.Text carried) = kind.Text
kind_of token.End = kind.End

-- Whether two kinds are the same.
abbrev pub is : Kind → Kind → Bool
is (kind.Keyword a) (kind.Keyword b) = sameb keyword_type a b
is (kind.Mark a) (kind.Mark b) = sameb mark_type a b
is kind.Name kind.Name = true
is kind.Number kind.Number = true
is kind.Negative kind.Negative = true
is kind.Char kind.Char = true
is kind.Text kind.Text = true
is kind.End kind.End = true
is _ _ = false

abbrev pub Tokens : Type 0
Tokens = List Token

-- The kind of the first token. Where the tokens are at their end, it is that of the end token.
abbrev pub peek : Tokens → Kind
peek [] = kind.End
peek (t ∷ ts) = kind_of t.kind

-- Whether there is a token, of that kind.
abbrev pub starts_with : Kind → Tokens → Bool
starts_with k [] = false
starts_with k (t ∷ ts) = is k (kind_of t.kind)

-- All kinds, each once.
abbrev pub all_kinds : List Kind
all_kinds = map kind.Keyword keywords ++ (map kind.Mark marks
    ++ kind.Name ∷ kind.Number ∷ kind.Negative ∷ kind.Char ∷ kind.Text ∷ kind.End ∷ [])

-- A token of each kind: no rule asks for a token that there is none of.
abbrev pub token_of : Kind → TokenKind
token_of (kind.Keyword keyword) = token.Keyword keyword
token_of (kind.Mark mark) = token.Mark mark
token_of kind.Name = token.Name []
token_of kind.Number = token.Number (pos 0)
token_of kind.Negative = token.Number (negsuc 0)
token_of kind.Char = token.Char 0
token_of kind.Text = token.Text []
token_of kind.End = token.End

abbrev pub sample : Kind → Token
sample k = record { kind = token_of k; begin = 0; end = 0 }

pub kind_of_sample : (k : Kind) → kind_of (sample k).kind ≡ k
kind_of_sample (kind.Keyword keyword) = refl
kind_of_sample (kind.Mark mark) = refl
kind_of_sample kind.Name = refl
kind_of_sample _ = refl
