-- Packed decimals: two digits in each byte, and in the last byte one digit and the sign. An even number of
-- digits has the half byte 0 in front, so that all bytes are full.
use Rattle.std.specs.Prelude.{◌≡◌, ℕ, ◌+◌, ◌/◌, ◌%◌, ℤ, pos, Bool, true, false, ◌&&◌, not, ◌==◌, nat_lt, if◌then◌else◌, List, [], ◌∷◌, ◌++◌, length, take, slice_index, Option, Some, None, option_and_then}
use Rattle.std.specs.Int.Digits.{number_from_digits}
use Rattle.std.specs.Int.RustNames.{unsigned_abs}
use Rattle.std.specs.List.{list_all}
use Rattle.std.specs.Option.{option_map_or}
use Rattle.pads_value.specs.declared.reading.Read.{Read}
use Rattle.pads_value.specs.declared.reading.Read.TheVariants.{Good, Soft, Hard}
use Rattle.pads_value.specs.declared.cause.Cause.TheVariants as cause
use Rattle.pads_decimal.specs.Digits.{digit_count, last_digits, fits}
use Rattle.pads_decimal.specs.HalfBytes.{is_digit, halves, joined, last, front}
use Rattle.pads_decimal.specs.Signs.{is_sign, with_sign, sign_of}

abbrev pub packed_width : ℕ → ℕ
packed_width count = count / 2 + 1

abbrev pub is_padded : ℕ → Bool
is_padded count = count % 2 == 0

abbrev pub pad : Bool → List ℕ
pad true = 0 ∷ []
pad false = []

-- a whole field: digits up to the last half byte, which is the sign
unfoldable pub packed_field : Bool → Bool → List ℕ → Read ℤ
packed_field padded signed field =
    let written = front (halves field) in
    let sign = last (halves field) in
    if not (list_all is_digit written && is_sign signed sign) then Soft (length field) cause.Invalid
    else if padded && not (slice_index (halves field) 0 == 0) then Soft (length field) cause.Range
    else Good (length field) (with_sign sign (number_from_digits 10 written))

-- the field of so many digits in front of the bytes
unfoldable pub packed_in_front : Bool → List ℕ → ℕ → Read ℤ
packed_in_front signed bytes count =
    if nat_lt (length bytes) (packed_width count) then Hard cause.Width
    else packed_field (is_padded count) signed (take (packed_width count) bytes)

unfoldable pub packed_reading : ℤ → Bool → List ℕ → Read ℤ
packed_reading digits signed bytes = option_map_or (packed_in_front signed bytes) (digit_count digits) (Hard cause.BadParam)

-- the canonical spelling; none where the digits aren't from 1 to 18, or don't write the number
unfoldable pub packed_bytes : Bool → ℤ → ℕ → Option (List ℕ)
packed_bytes signed v count =
    if fits count signed v
    then Some (joined (pad (is_padded count) ++ (last_digits count (unsigned_abs v) ++ sign_of signed v ∷ [])))
    else None

unfoldable pub packed_spelling : ℤ → Bool → ℤ → Option (List ℕ)
packed_spelling digits signed v = option_and_then (packed_bytes signed v) (digit_count digits)

-- the bytes spell the number: the pad, so many digits, and a sign
pub record SpellsPacked (digits : ℤ) (signed : Bool) (v : ℤ) (bytes : List ℕ) : Type 0 where
  pub count : ℕ
  pub counted : digit_count digits ≡ Some count
  pub written : List ℕ
  pub many : length written ≡ count
  pub decimal : list_all is_digit written ≡ true
  pub sign : ℕ
  pub allowed : is_sign signed sign ≡ true
  pub parts : halves bytes ≡ pad (is_padded count) ++ (written ++ sign ∷ [])
  pub value : v ≡ with_sign sign (number_from_digits 10 written)
