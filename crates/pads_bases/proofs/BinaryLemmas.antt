-- The numbers of bytes, and the bytes of numbers.
use Rattle.std.proofs.Common.{◌≡◌, ℕ, suc, ◌+◌, ◌-◌, ◌*◌, ◌%◌, ◌^◌, ◌<◌, ◌≤◌, Bool, true, false, List, length, take, get_or, pos, negsuc, ℤ, int_lt, nat_le, nat_lt, length-take-le, Some, None, refl, sym, ap, ◌∙◌, arith}
use Rattle.std.specs.Int.{w128}
use Rattle.std.proofs.Math.Nat.{mod-eq_of_lt, one-le-pow}
use Rattle.std.proofs.Math.Arith.{digits_mod}
use Rattle.std.proofs.lemmas.Nat.{pow-add}
use Rattle.byteorder.proofs.Bytes.{pow256, sign_bit}
use Rattle.std.proofs.lemmas.Int.{ints}
use Rattle.std.proofs.lemmas.Bool.{le-leb, le-ltb, ltb-true}
use Rattle.std.proofs.Math.Bool.{and-false}
use Rattle.byteorder.specs.Endian.{big_number, little_number, low_bytes}
use Rattle.byteorder.specs.Numbers.{big_from-lt, little_from-lt}
use Rattle.pads_value.specs.declared.reading.Read.TheVariants.{Hard}
use Rattle.pads_value.specs.declared.cause.Cause.TheVariants as cause
use Rattle.pads_bases.specs.declared.binary.Range.{Range}
use Rattle.pads_bases.specs.declared.binary.Order.{Order}
use Rattle.pads_bases.specs.declared.binary.Order.TheVariants.{Low, High}
use Rattle.pads_bases.specs.Binaries.{unsigned, is_size, is_signed, has_number, bin_number, ranged, bin_reading, bin_spelling, fits, residue, bytes_in}

-- each is a byte
pub record AreBytes (xs : List ℕ) : Type 0 where
  pub small : (k : ℕ) → get_or xs k 0 < 256

pub unsigned_low : (bytes : List ℕ) → AreBytes bytes → little_number (length bytes) bytes ≡ unsigned Low bytes
unsigned_low bytes are = sym (mod-eq_of_lt (little_from-lt 0 (length bytes) bytes are.small))

pub unsigned_high : (bytes : List ℕ) → AreBytes bytes → big_number (length bytes) bytes ≡ unsigned High bytes
unsigned_high bytes are = sym (mod-eq_of_lt (big_from-lt 0 (length bytes) bytes are.small))

-- the size as the code tests it
pub size_too_small : (range : Range) (order : Order) (size : ℤ) (bytes : List ℕ) → int_lt size (pos 1) ≡ true → Hard cause.BadParam ≡ bin_reading range order size bytes
unfolding bin_reading
size_too_small range order (negsuc s) bytes h = refl
size_too_small range order (pos s) bytes h = let none : s ≡ 0 = grind (arith, ints) in rw none refl

pub size_too_large : (range : Range) (order : Order) (size : ℤ) (bytes : List ℕ) → int_lt (pos 8) size ≡ true → Hard cause.BadParam ≡ bin_reading range order size bytes
unfolding bin_reading
size_too_large range order (negsuc s) bytes h = refl
size_too_large range order (pos s) bytes h =
    let more : nat_le s 8 ≡ false = grind (arith, ints) in rw (more, and-false (nat_le 1 s)) refl

pub sized : (s : ℕ) → 1 ≤ s → s ≤ 8 → is_size s ≡ true
sized s low high = rw (le-leb 1 s low, le-leb s 8 high) refl

pub bytes_missing : (range : Range) (order : Order) (size : ℤ) (bytes : List ℕ) → int_lt size (pos 1) ≡ false → int_lt (pos 8) size ≡ false → int_lt (pos (length bytes)) size ≡ true → Hard cause.Width ≡ bin_reading range order size bytes
unfolding bin_reading
bytes_missing range order (negsuc s) bytes low high short = absurd (grind (arith, ints))
bytes_missing range order (pos s) bytes low high short =
    rw (sized s (grind (arith, ints)) (grind (arith, ints)), short) refl

pub bytes_there : (range : Range) (order : Order) (size : ℤ) (bytes field : List ℕ) (s : ℕ) → 1 ≤ s → s ≤ 8 → s ≤ length bytes → size ≡ pos s → field ≡ take s bytes
    → ranged range (length field) (bin_number range order field) ≡ bin_reading range order size bytes
unfolding bin_reading
bytes_there range order size bytes field s low high le is front =
    let long : nat_lt (length bytes) s ≡ false = le-ltb (length bytes) s le in
    rw (is, front, sized s low high, long, length-take-le s bytes le) refl

-- spelling
pub no_size_below : (range : Range) (order : Order) (size v : ℤ) → int_lt size (pos 1) ≡ true → None ≡ bin_spelling range order size v
unfolding bin_spelling
no_size_below range order (negsuc s) v h = refl
no_size_below range order (pos s) v h = let none : s ≡ 0 = grind (arith, ints) in rw none refl

pub no_size_above : (range : Range) (order : Order) (size v : ℤ) → int_lt (pos 8) size ≡ true → None ≡ bin_spelling range order size v
unfolding bin_spelling
no_size_above range order (negsuc s) v h = refl
no_size_above range order (pos s) v h =
    let more : nat_le s 8 ≡ false = grind (arith, ints) in rw (more, and-false (nat_le 1 s)) refl

pub not_of_kind : (range : Range) (order : Order) (size v : ℤ) (s : ℕ) → size ≡ pos s → has_number range v ≡ false → None ≡ bin_spelling range order size v
unfolding bin_spelling
not_of_kind range order size v s is out = rw (is, out, and-false (is_size s)) refl

pub no_place : (range : Range) (order : Order) (size v : ℤ) (s : ℕ) → size ≡ pos s → fits (is_signed range) s v ≡ false → None ≡ bin_spelling range order size v
unfolding bin_spelling
no_place range order size v s is out = rw (is, out, and-false (has_number range v), and-false (is_size s)) refl

-- the lowest bytes of a number that fits them are those of its residue
pub twice_half : (s : ℕ) → 1 ≤ s → s ≤ 8 → 2 ^ (8 * s) ≡ 2 * 2 ^ (8 * s - 1)
twice_half s low high = sym (pow256 s) ∙ (sign_bit s low high).2

-- what is below 2^128 by less than a smaller power leaves the same below that power
below_power : (q m n : ℕ) → suc q * m ≡ 2 ^ 128 → 0 < n → n ≤ m → (2 ^ 128 - n) % m ≡ m - n
below_power q m n whole some le =
    let split : 2 ^ 128 - n ≡ q * m + (m - n) = omega (arith, whole) in
    rw split (digits_mod q (omega arith))

pub fits-pos : (signed : Bool) (s n : ℕ) → 1 ≤ s → s ≤ 8 → fits signed s (pos n) ≡ true → n < 2 ^ (8 * s)
fits-pos true s n low high h = omega (arith, ltb-true _ _ h, twice_half s low high)
fits-pos false s n low high h = ltb-true _ _ h

pub fits-neg : (signed : Bool) (s n : ℕ) → fits signed s (negsuc n) ≡ true → (signed ≡ true) × (n < 2 ^ (8 * s - 1))
fits-neg true s n h = (refl, ltb-true _ _ h)
fits-neg false s n h = cc

low_bytes-residue : (signed : Bool) (s : ℕ) (v : ℤ) → 1 ≤ s → s ≤ 8 → fits signed s v ≡ true → low_bytes w128 s v ≡ residue s v
low_bytes-residue signed s (pos n) low high place = mod-eq_of_lt (fits-pos signed s n low high place)
low_bytes-residue signed s (negsuc n) low high place =
    let some : 0 < 2 ^ (128 - 8 * s) = one-le-pow (128 - 8 * s) 2 (omega arith) in
    let parts : 128 ≡ (128 - 8 * s) + 8 * s = omega arith in
    let more : suc (2 ^ (128 - 8 * s) - 1) ≡ 2 ^ (128 - 8 * s) = omega arith in
    let whole : suc (2 ^ (128 - 8 * s) - 1) * 2 ^ (8 * s) ≡ 2 ^ 128 = rw more (sym (pow-add 2 (128 - 8 * s) (8 * s)) ∙ ap (λ (e : ℕ). 2 ^ e) (sym parts)) in
    below_power (2 ^ (128 - 8 * s) - 1) (2 ^ (8 * s)) (suc n) whole (omega arith) (omega (arith, (fits-neg signed s n place).1, twice_half s low high))

pub bytes_spelled : (range : Range) (order : Order) (size v : ℤ) (s : ℕ) (bytes : List ℕ) → size ≡ pos s → 1 ≤ s → s ≤ 8 → has_number range v ≡ true → fits (is_signed range) s v ≡ true
    → bytes ≡ bytes_in order s (low_bytes w128 s v) → Some bytes ≡ bin_spelling range order size v
unfolding bin_spelling
bytes_spelled range order size v s bytes is low high within place are =
    rw (is, sized s low high, within, place, are, low_bytes-residue (is_signed range) s v low high place) refl
