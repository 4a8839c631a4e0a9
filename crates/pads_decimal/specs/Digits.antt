-- Decimal digits of a number of at most 18 digits.
use Rattle.std.specs.Prelude.{ℕ, zero, suc, ◌/◌, ◌%◌, ◌^◌, ℤ, pos, negsuc, Bool, ◌&&◌, ◌||◌, not, nat_le, nat_lt, int_lt, if◌then◌else◌, List, [], ◌∷◌, Option, Some, None}
use Rattle.std.specs.Int.RustNames.{unsigned_abs}

-- how many digits a decimal has: from 1 to 18
abbrev pub digit_count : ℤ → Option ℕ
digit_count (negsuc d) = None
digit_count (pos d) = if nat_le 1 d && nat_le d 18 then Some d else None

-- the last `count` digits of a number; the one at a place stands for so many times 10 to the place
abbrev pub last_digits : ℕ → ℕ → List ℕ
last_digits zero n = []
last_digits (suc place) n = (n / 10 ^ place % 10) ∷ last_digits place n

-- so many digits write the number, which has a sign to be below 0
abbrev pub fits : ℕ → Bool → ℤ → Bool
fits count signed v = (signed || not (int_lt v (pos 0))) && nat_lt (unsigned_abs v) (10 ^ count)
