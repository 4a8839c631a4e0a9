-- The sign of a decimal, in a half byte: C is plus, D is minus, F says that the number has none.
use Rattle.std.specs.Prelude.{ℕ, ℤ, pos, negsuc, neg_ℤ, Bool, ◌&&◌, ◌||◌, ◌==◌, if◌then◌else◌}

abbrev pub plus : ℕ
plus = 0xc

abbrev pub minus : ℕ
minus = 0xd

abbrev pub unsigned : ℕ
unsigned = 0xf

-- the signs that are read: a decimal without sign has no minus
abbrev pub is_sign : Bool → ℕ → Bool
is_sign signed half = (half == plus) || ((half == unsigned) || (signed && (half == minus)))

-- the number behind its sign; zero stays zero
abbrev pub with_sign : ℕ → ℕ → ℤ
with_sign sign n = if sign == minus then neg_ℤ (pos n) else pos n

-- the sign that is written
abbrev pub sign_of : Bool → ℤ → ℕ
sign_of signed (pos n) = if signed then plus else unsigned
sign_of signed (negsuc n) = minus
