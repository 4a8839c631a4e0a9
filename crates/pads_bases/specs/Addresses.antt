-- IP addresses of version 4: four numbers of 1 to 3 digits and at most 255, with `.` between them. The
-- value is the 32-bit number of the four.
use Rattle.std.specs.Prelude.{◌≡◌, ℕ, ℤ, pos, negsuc, ◌+◌, ◌-◌, ◌*◌, ◌/◌, ◌%◌, ◌^◌, Bool, true, ◌&&◌, ◌==◌, nat_le, nat_lt, if◌then◌else◌, List, [], ◌∷◌, ◌++◌, drop, length, Option, Some, None, option_map, option_and_then}
use Rattle.std.specs.Char.{is_ascii_digit}
use Rattle.std.specs.List.{take_while}
use Rattle.std.specs.Fmt.{decimal}
use Rattle.pads_value.specs.declared.reading.Read.{Read}
use Rattle.pads_value.specs.declared.reading.Read.TheVariants.{Good, Hard}
use Rattle.pads_value.specs.declared.cause.Cause.TheVariants as cause
use Rattle.pads_code.specs.declared.Coding.{Coding}
use Rattle.pads_code.specs.Numerals.{is_numeral, number}
use Rattle.pads_code.specs.CodePage.{points_of, bytes_of}

-- the code point `.`
abbrev pub dot : ℕ
dot = 46

-- 1 to 3 digits, and at most 255
abbrev pub is_octet : List ℕ → Bool
is_octet digits = is_numeral digits && (nat_le (length digits) 3 && nat_le (number digits) 255)

-- a number that was read, and what stands behind it
pub record Numbered : Type 0 where
  pub number : ℕ
  pub rest : List ℕ

-- the longest run of digits in front, where it is an octet
unfoldable pub octet : List ℕ → Option Numbered
octet points =
    let digits = take_while is_ascii_digit points in
    if is_octet digits then Some (record { number = number digits; rest = drop (length digits) points }) else None

-- what stands behind a `.`
abbrev pub behind_dot : List ℕ → Option (List ℕ)
behind_dot [] = None
behind_dot (p ∷ ps) = if p == dot then Some ps else None

-- the number with one more octet behind a `.`
abbrev pub joined : ℕ → Numbered → Numbered
joined front next = record { number = front * 256 + next.number; rest = next.rest }

unfoldable pub next_octet : Numbered → Option Numbered
next_octet before = option_map (joined before.number) (option_and_then octet (behind_dot before.rest))

-- four octets
unfoldable pub address : List ℕ → Option Numbered
address points = option_and_then next_octet (option_and_then next_octet (option_and_then next_octet (octet points)))

abbrev pub address_read : ℕ → Option Numbered → Read ℤ
address_read size None = Hard cause.Invalid
address_read size (Some found) = Good (size - length found.rest) (pos found.number)

unfoldable pub ip_reading : Coding → List ℕ → Read ℤ
ip_reading coding bytes = address_read (length bytes) (address (points_of coding bytes))

-- the canonical spelling: four decimals without leading zeros; none below 0 and from 2^32
abbrev pub dotted : ℕ → List ℕ
dotted n = decimal (n / 2 ^ 24) ++ dot ∷ (decimal (n / 2 ^ 16 % 256) ++ dot ∷ (decimal (n / 2 ^ 8 % 256) ++ dot ∷ decimal (n % 256)))

unfoldable pub ip_spelling : Coding → ℤ → Option (List ℕ)
ip_spelling coding (negsuc n) = None
ip_spelling coding (pos n) = if nat_lt n (2 ^ 32) then Some (bytes_of coding (dotted n)) else None

-- which code points are an address: four octets with `.` between them
pub record IsAddress (n : ℕ) (points : List ℕ) : Type 0 where
  pub a : List ℕ
  pub b : List ℕ
  pub c : List ℕ
  pub d : List ℕ
  pub parts : points ≡ a ++ dot ∷ (b ++ dot ∷ (c ++ dot ∷ d))
  pub first : is_octet a ≡ true
  pub second : is_octet b ≡ true
  pub third : is_octet c ≡ true
  pub fourth : is_octet d ≡ true
  pub value : n ≡ ((number a * 256 + number b) * 256 + number c) * 256 + number d

pub record SpellsIp (coding : Coding) (v : ℤ) (bytes : List ℕ) : Type 0 where
  pub n : ℕ
  pub value : v ≡ pos n
  pub address : IsAddress n (points_of coding bytes)
