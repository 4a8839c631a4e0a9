-- Zoned decimals: one digit in each byte, in its low half. The high half is the zone F, in the last byte the
-- sign. Without a sign these are the digits of EBCDIC.
use Rattle.std.specs.Prelude.{◌≡◌, ℕ, ◌+◌, ◌*◌, ◌-◌, ℤ, Bool, true, ◌&&◌, ◌==◌, nat_lt, if◌then◌else◌, List, [], ◌∷◌, ◌++◌, length, take, map, replicate, Option, Some, None, option_and_then}
use Rattle.std.specs.Int.Digits.{number_from_digits}
use Rattle.std.specs.Int.RustNames.{unsigned_abs}
use Rattle.std.specs.List.{list_all}
use Rattle.std.specs.Option.{option_map_or}
use Rattle.pads_value.specs.declared.reading.Read.{Read}
use Rattle.pads_value.specs.declared.reading.Read.TheVariants.{Good, Soft, Hard}
use Rattle.pads_value.specs.declared.cause.Cause.TheVariants as cause
use Rattle.pads_decimal.specs.Digits.{digit_count, last_digits, fits}
use Rattle.pads_decimal.specs.HalfBytes.{high, low, is_digit, last, front}
use Rattle.pads_decimal.specs.Signs.{is_sign, with_sign, sign_of}

-- the zone of a digit that has no sign in it
abbrev pub zone : ℕ
zone = 0xf

-- a digit in its zone
abbrev pub is_zoned : ℕ → Bool
is_zoned byte = (high byte == zone) && is_digit (low byte)

-- a whole field: digits in their zones, and in the last byte a digit and the sign
unfoldable pub zoned_field : Bool → List ℕ → Read ℤ
zoned_field signed field =
    let sign = high (last field) in
    if list_all is_zoned (front field) && (is_digit (low (last field)) && is_sign signed sign)
    then Good (length field) (with_sign sign (number_from_digits 10 (map low field)))
    else Soft (length field) cause.Invalid

-- the field of so many digits in front of the bytes
unfoldable pub zoned_in_front : Bool → List ℕ → ℕ → Read ℤ
zoned_in_front signed bytes count =
    if nat_lt (length bytes) count then Hard cause.Width
    else zoned_field signed (take count bytes)

unfoldable pub zoned_reading : ℤ → Bool → List ℕ → Read ℤ
zoned_reading digits signed bytes = option_map_or (zoned_in_front signed bytes) (digit_count digits) (Hard cause.BadParam)

-- bytes of these zones and digits
abbrev pub in_zones : List ℕ → List ℕ → List ℕ
in_zones [] ds = []
in_zones (z ∷ zs) [] = []
in_zones (z ∷ zs) (d ∷ ds) = (z * 16 + d) ∷ in_zones zs ds

-- the zones of so many digits, the last of which is the sign
abbrev pub zones : ℕ → ℕ → List ℕ
zones count sign = replicate (count - 1) zone ++ sign ∷ []

-- the canonical spelling; none where the digits aren't from 1 to 18, or don't write the number
unfoldable pub zoned_bytes : Bool → ℤ → ℕ → Option (List ℕ)
zoned_bytes signed v count =
    if fits count signed v
    then Some (in_zones (zones count (sign_of signed v)) (last_digits count (unsigned_abs v)))
    else None

unfoldable pub zoned_spelling : ℤ → Bool → ℤ → Option (List ℕ)
zoned_spelling digits signed v = option_and_then (zoned_bytes signed v) (digit_count digits)

-- the bytes spell the number: so many digits in their zones, and a sign
pub record SpellsZoned (digits : ℤ) (signed : Bool) (v : ℤ) (bytes : List ℕ) : Type 0 where
  pub count : ℕ
  pub counted : digit_count digits ≡ Some count
  pub many : length bytes ≡ count
  pub decimal : list_all is_digit (map low bytes) ≡ true
  pub sign : ℕ
  pub allowed : is_sign signed sign ≡ true
  pub zoned : map high bytes ≡ zones count sign
  pub value : v ≡ with_sign sign (number_from_digits 10 (map low bytes))
