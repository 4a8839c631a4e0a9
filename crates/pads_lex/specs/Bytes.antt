-- The classes of bytes that tokens are made of.
use Rattle.std.specs.Prelude.{ℕ, Bool, ◌==◌, ◌||◌, ◌&&◌, ◌-◌, not, nat_le, if◌then◌else◌}

abbrev pub is_between : ℕ → ℕ → ℕ → Bool
is_between first last b = nat_le first b && nat_le b last

-- tab, newline, carriage return and space
unfoldable pub is_blank : ℕ → Bool
is_blank b = b == 0x09 || b == 0x0A || b == 0x0D || b == 0x20

-- a letter or `_`, with which a name begins
unfoldable pub is_letter : ℕ → Bool
is_letter b = is_between 0x41 0x5A b || is_between 0x61 0x7A b || b == 0x5F

unfoldable pub is_digit : ℕ → Bool
is_digit b = is_between 0x30 0x39 b

-- a letter, a digit or `_`, with which a name goes on
unfoldable pub is_word_byte : ℕ → Bool
is_word_byte b = is_letter b || is_digit b

-- a digit in base 16, in either case
unfoldable pub is_hex : ℕ → Bool
is_hex b = is_digit b || is_between 0x41 0x46 b || is_between 0x61 0x66 b

-- what a digit of base 10 or 16 counts
unfoldable pub digit_value : ℕ → ℕ
digit_value b = if nat_le b 0x39 then b - 0x30 else if nat_le b 0x46 then b - 0x37 else b - 0x57

-- a byte of a comment that ends with its line
unfoldable pub is_on_line : ℕ → Bool
is_on_line b = not (b == 0x0A)
