-- Runs of decimal digits as code points, and the number that they write.
use Rattle.std.specs.Prelude.{ℕ, Bool, ◌&&◌, not, ◌==◌, ◌+◌, ◌-◌, ◌*◌, List, length, fold}
use Rattle.std.specs.Char.{is_ascii_digit}
use Rattle.std.specs.List.{list_all}

-- at least one digit, and nothing else
abbrev pub is_numeral : List ℕ → Bool
is_numeral points = not (length points == 0) && list_all is_ascii_digit points

-- the decimal number of digits, of which those in front may be zeros
abbrev pub number : List ℕ → ℕ
number digits = fold (λ n digit. n * 10 + (digit - 48)) 0 digits
