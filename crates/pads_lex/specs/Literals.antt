-- How a literal is read from behind its opening quote.
use Rattle.std.specs.Prelude.{ℕ, zero, suc, ◌<◌, ◌≤◌, ◌+◌, ◌*◌, ◌-◌, Bool, List, [], ◌∷◌, ◌++◌, Option, Some, None, ◌==◌, ◌&&◌, if◌then◌else◌}
use Rattle.pads_lex.specs.Bytes.{is_between, is_hex, digit_value}
use Rattle.pads_lex.specs.declared.literal.Character.{Character}
use Rattle.pads_lex.specs.declared.literal.Character.TheVariants as character_is
use Rattle.pads_lex.specs.declared.literal.Literal.{Literal}
use Rattle.pads_lex.specs.declared.literal.Literal.TheVariants as literal_is
use Rattle.pads_lex.specs.declared.fault.LexKind.TheVariants as fault

-- the code point of an escape of two bytes, by its second: `\n`, `\r`, `\t`, `\0`, `\\`, `\'` and `\"`
unfoldable pub escape : ℕ → Option ℕ
escape byte =
    if byte == 0x6E then Some 0x0A
    else if byte == 0x72 then Some 0x0D
    else if byte == 0x74 then Some 0x09
    else if byte == 0x30 then Some 0x00
    else if byte == 0x5C then Some 0x5C
    else if byte == 0x27 then Some 0x27
    else if byte == 0x22 then Some 0x22
    else None

-- a byte that stands for itself in a literal, where it is neither a quote nor a backslash
abbrev pub is_printed : ℕ → Bool
is_printed = is_between 0x20 0x7E

-- the code point that two digits of base 16 write
abbrev pub hex_point : ℕ → ℕ → ℕ
hex_point high low = digit_value high * 16 + digit_value low

-- the character that two digits of base 16 stand for, behind `\x`
unfoldable pub hex_character : ℕ → ℕ → Character
hex_character high low =
    if is_hex high && is_hex low then character_is.Point (hex_point high low) 4 else character_is.Fault fault.BadEscape

abbrev pub by_escape : Option ℕ → Character
by_escape None = character_is.Fault fault.BadEscape
by_escape (Some point) = character_is.Point point 2

-- the character that a backslash and the bytes behind it stand for
unfoldable pub escaped : List ℕ → Character
escaped [] = character_is.Fault fault.BadEscape
escaped (byte ∷ []) = by_escape (escape byte)
escaped (byte ∷ high ∷ []) = by_escape (escape byte)
escaped (byte ∷ high ∷ low ∷ z) = if byte == 0x78 then hex_character high low else by_escape (escape byte)

-- what stands at the front of a text inside a literal with this quote
unfoldable pub character_at : ℕ → List ℕ → Character
character_at quote [] = character_is.Open
character_at quote (byte ∷ after) =
    if byte == quote then character_is.Close
    else if byte == 0x0A then character_is.Open
    else if byte == 0x5C then escaped after
    else if is_printed byte then character_is.Point byte 1
    else character_is.Fault fault.BadByte

-- What a literal is, by what stands behind the `at` bytes and the characters `points` that were read before. A
-- character of some bytes goes on behind its first byte, with the others left to pass over.
abbrev pub literal_by : ℕ → List ℕ → Character → (ℕ → List ℕ → Literal) → Literal
literal_by at points character_is.Close go_on = literal_is.Closed (at + 1) points
literal_by at points (character_is.Point point size) go_on = go_on (size - 1) (points ++ point ∷ [])
literal_by at points character_is.Open go_on = literal_is.Open
literal_by at points (character_is.Fault kind) go_on = literal_is.Fault kind at

-- The literal that goes on with these bytes, of which `left` belong to a character that is read already.
unfoldable pub literal_from : ℕ → ℕ → ℕ → List ℕ → List ℕ → Literal
literal_from quote left at points [] = literal_is.Open
literal_from quote (suc left) at points (byte ∷ z) = literal_from quote left (at + 1) points z
literal_from quote zero at points (byte ∷ z) =
    literal_by at points (character_at quote (byte ∷ z)) (λ left more. literal_from quote left (at + 1) more z)

-- what a literal tells stands within so many bytes
abbrev pub IsWithin : Literal → ℕ → Type 0
IsWithin (literal_is.Closed size points) all = size ≤ all
IsWithin literal_is.Open all = Unit {0}
IsWithin (literal_is.Fault kind at) all = at < all
