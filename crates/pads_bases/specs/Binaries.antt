-- Binary integers of 1 to 8 bytes, low or high byte first; those of a signed kind in two's complement.
use Rattle.std.specs.Prelude.{◌≡◌, ℕ, suc, ℤ, pos, negsuc, ◌-◌, ◌*◌, ◌%◌, ◌^◌, Bool, true, ◌&&◌, not, int_lt, nat_le, nat_lt, if◌then◌else◌, List, take, length, Option, Some, None}
use Rattle.byteorder.specs.Endian.{big_number, little_number, big_bytes, little_bytes, twos_complement}
use Rattle.pads_value.specs.declared.reading.Read.{Read}
use Rattle.pads_value.specs.declared.reading.Read.TheVariants.{Good, Soft, Hard}
use Rattle.pads_value.specs.declared.cause.Cause.TheVariants as cause
use Rattle.pads_bases.specs.declared.binary.Order.{Order}
use Rattle.pads_bases.specs.declared.binary.Order.TheVariants.{Low, High}
use Rattle.pads_bases.specs.declared.binary.Range.{Range}

-- the bytes' number; the remainder changes nothing where each is a byte
abbrev pub unsigned : Order → List ℕ → ℕ
unsigned Low bytes = little_number (length bytes) bytes % 256 ^ length bytes
unsigned High bytes = big_number (length bytes) bytes % 256 ^ length bytes

-- a range stands for a kind of integers, which is signed where it has numbers below 0
abbrev pub is_signed : Range → Bool
is_signed range = int_lt range.low (pos 0)

abbrev pub has_number : Range → ℤ → Bool
has_number range v = not (int_lt v range.low) && not (int_lt range.high v)

-- the number of bytes of a kind
abbrev pub bin_number : Range → Order → List ℕ → ℤ
bin_number range order bytes =
    if is_signed range then twos_complement (length bytes) (unsigned order bytes) else pos (unsigned order bytes)

abbrev pub is_size : ℕ → Bool
is_size size = nat_le 1 size && nat_le size 8

abbrev pub ranged : Range → ℕ → ℤ → Read ℤ
ranged range size v = if has_number range v then Good size v else Soft size cause.Range

unfoldable pub bin_reading : Range → Order → ℤ → List ℕ → Read ℤ
bin_reading range order (negsuc s) bytes = Hard cause.BadParam
bin_reading range order (pos size) bytes =
    if not (is_size size) then Hard cause.BadParam
    else if nat_lt (length bytes) size then Hard cause.Width
    else ranged range size (bin_number range order (take size bytes))

-- the number has a place in so many bytes
abbrev pub fits : Bool → ℕ → ℤ → Bool
fits signed size (pos n) = nat_lt n (if signed then 2 ^ (8 * size - 1) else 2 ^ (8 * size))
fits signed size (negsuc n) = signed && nat_lt n (2 ^ (8 * size - 1))

-- the number that its bytes have without a sign
abbrev pub residue : ℕ → ℤ → ℕ
residue size (pos n) = n
residue size (negsuc n) = 2 ^ (8 * size) - suc n

abbrev pub bytes_in : Order → ℕ → ℕ → List ℕ
bytes_in Low size n = little_bytes size n
bytes_in High size n = big_bytes size n

-- none where the kind or the bytes don't have the number, or the size isn't from 1 to 8
unfoldable pub bin_spelling : Range → Order → ℤ → ℤ → Option (List ℕ)
bin_spelling range order (negsuc s) v = None
bin_spelling range order (pos size) v =
    if is_size size && (has_number range v && fits (is_signed range) size v)
    then Some (bytes_in order size (residue size v))
    else None

-- the bytes are those of the number
pub record SpellsBin (range : Range) (order : Order) (size v : ℤ) (bytes : List ℕ) : Type 0 where
  pub fills : size ≡ pos (length bytes)
  pub sized : is_size (length bytes) ≡ true
  pub number : v ≡ bin_number range order bytes
  pub ranged : has_number range v ≡ true
