-- The number of digits in half bytes, and none where a half byte is no digit.
use Rattle.std.specs.Prelude.{ℕ, ◌+◌, ◌*◌, Bool, ◌&&◌, if◌then◌else◌, List, map, Option, Some, None}
use Rattle.std.specs.Int.Digits.{number_from_digits}
use Rattle.std.specs.List.{list_all}
use Rattle.pads_decimal.specs.HalfBytes.{high, low, is_digit}
use Rattle.pads_decimal.specs.Zoned.{is_zoned}

unfoldable pub number_of : List ℕ → Option ℕ
number_of written = if list_all is_digit written then Some (number_from_digits 10 written) else None

-- of the two in a byte
abbrev pub is_pair : ℕ → Bool
is_pair byte = is_digit (high byte) && is_digit (low byte)

abbrev pub pair_of : ℕ → Option ℕ
pair_of byte = if is_pair byte then Some (high byte * 10 + low byte) else None

-- of a digit in its zone, and of such digits
abbrev pub zoned_digit_of : ℕ → Option ℕ
zoned_digit_of byte = if is_zoned byte then Some (low byte) else None

unfoldable pub zoned_number_of : List ℕ → Option ℕ
zoned_number_of bytes = if list_all is_zoned bytes then Some (number_from_digits 10 (map low bytes)) else None
