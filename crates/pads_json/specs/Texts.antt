-- Text between the quotes of JSON.
use Rattle.std.specs.Prelude.{ℕ, List, Bool, ◌&&◌, ◌==◌, not, nat_lt, encode_utf8_all}
use Rattle.json.specs.Print.{escape}

-- whether a code point stands there as itself, in one byte
abbrev pub stands : ℕ → Bool
stands point = nat_lt 31 point && (nat_lt point 128 && (not (point == 34) && not (point == 92)))

-- a text of code points
abbrev pub escaped_points : List ℕ → List ℕ
escaped_points points = escape (encode_utf8_all points)
