-- Numbers in options.
use Rattle.std.specs.Prelude.{ℕ, nat_le, nat_eq, ◌*◌, ◌+◌, ◌-◌, ◌==◌, Bool, ◌&&◌, ◌||◌, not, if◌then◌else◌, List, [], ◌∷◌, Option, Some, None, length, option_and_then, option_map, codes}
use Rattle.std.specs.List.{starts_with}
use Rattle.pads_code.specs.Numerals.{is_numeral, number}

-- zero alone begins with a zero
abbrev pub leads_well : List ℕ → Bool
leads_well text = not (starts_with nat_eq text (codes "0")) || length text == 1

-- a number that isn't above the greatest
abbrev pub up_to : ℕ → ℕ → Option ℕ
up_to greatest n = if nat_le n greatest then Some n else None

-- a number above 0
abbrev pub positive : ℕ → Option ℕ
positive n = if n == 0 then None else Some n

-- a number from 0 to the greatest, in decimal digits without sign and without leading zeros
abbrev pub count_to : ℕ → List ℕ → Option ℕ
count_to greatest text = if is_numeral text && leads_well text then up_to greatest (number text) else None

-- a number from 1 to the greatest, in the same form
abbrev pub number_to : ℕ → List ℕ → Option ℕ
number_to greatest text = option_and_then positive (count_to greatest text)

-- what a hexadecimal digit of either case stands for
abbrev pub hex_digit : ℕ → Option ℕ
hex_digit c = if nat_le 48 c && nat_le c 57 then Some (c - 48)
    else if nat_le 65 c && nat_le c 70 then Some (c - 55)
    else if nat_le 97 c && nat_le c 102 then Some (c - 87)
    else None

-- a byte in two hexadecimal digits
abbrev pub hex_byte : List ℕ → Option ℕ
hex_byte (high ∷ low ∷ []) = option_and_then (λ h. option_map (λ l. 16 * h + l) (hex_digit low)) (hex_digit high)
hex_byte text = None
