-- The numbers that are indexes of paths: those up to 2^62.
use Rattle.std.specs.Prelude.{ℕ, ◌^◌, pos, Bool, false, not, nat_le, if◌then◌else◌}
use Rattle.std.specs.List.{list_all}
use Rattle.pads_lex.specs.declared.token.TokenKind.{TokenKind}
use Rattle.pads_lex.specs.declared.token.TokenKind.TheVariants as token_kind
use Rattle.pads_grammar.specs.Kinds.{Tokens}

-- The greatest index.
abbrev pub most_index : ℕ
most_index = 2 ^ 62

-- The index that a token carries; 0 where it carries none.
abbrev pub index_of : TokenKind → ℕ
index_of (token_kind.Number (pos n)) = if nat_le n most_index then n else 0
index_of _ = 0

-- A number above the greatest index.
abbrev pub is_large : TokenKind → Bool
is_large (token_kind.Number (pos n)) = not (nat_le n most_index)
is_large _ = false

-- No number among the tokens is above the greatest index.
abbrev pub none_large : Tokens → Bool
none_large ts = list_all (λ t. not (is_large t.kind)) ts
