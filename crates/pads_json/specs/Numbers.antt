-- A number as JSON: from -2^63 to 2^64 - 1, the whole numbers that readers of JSON take for such.
use Rattle.std.specs.Prelude.{ℤ, pos, negsuc, ◌^◌, nat_lt, if◌then◌else◌}
use Rattle.serde_json.specs.Data.{Data, null, number, unsigned, negative}

abbrev pub integer : ℤ → Data
integer (pos n) = if nat_lt n (2 ^ 64) then number (unsigned n) else null
integer (negsuc n) = if nat_lt n (2 ^ 63) then number (negative (negsuc n)) else null
