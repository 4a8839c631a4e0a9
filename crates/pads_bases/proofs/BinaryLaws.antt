-- Binary integers read what they spell.
use Rattle.std.proofs.Common.{◌-ℤ◌, ◌≡◌, ℕ, suc, ◌-◌, ◌*◌, ◌^◌, ◌<◌, ◌≤◌, ◌&&◌, Bool, true, false, not, cond, ℤ, pos, negsuc, nat_lt, nat_le, List, [], length, take, Some, refl, sym, ap, ◌∙◌, arith, inl, inr, length-take-le, append-nil}
use Rattle.std.specs.Option.{IsSomeAnd}
use Rattle.std.proofs.Math.Seq.{take-length}
use Rattle.std.proofs.Math.Nat.{mod-eq_of_lt, mod-lt, one-le-pow}
use Rattle.std.proofs.lemmas.Int.{ints}
use Rattle.std.proofs.lemmas.Bool.{cases_lt, lt-ltb, le-ltb, ltb-true, ltb-false, leb-true, and_parts, not-false}
use Rattle.byteorder.specs.Endian.{big_number, little_number, twos_complement}
use Rattle.byteorder.specs.Numbers.{big_number-reads_back, little_number-reads_back, length-bytes_high_first, length-bytes_low_first}
use Rattle.byteorder.proofs.Bytes.{pow256}
use Rattle.pads_value.specs.declared.reading.Read.TheVariants.{Good, Hard}
use Rattle.pads_value.specs.declared.cause.Cause.TheVariants as cause
use Rattle.pads_value.proofs.ReadLemmas.{good_in_range}
use Rattle.pads_bases.specs.declared.binary.Range.{Range}
use Rattle.pads_bases.specs.declared.binary.Order.{Order}
use Rattle.pads_bases.specs.declared.binary.Order.TheVariants.{Low, High}
use Rattle.pads_bases.specs.Binaries.{unsigned, is_signed, has_number, bin_number, is_size, ranged, bin_reading, fits, residue, bytes_in, bin_spelling, SpellsBin}
use Rattle.pads_bases.proofs.BinaryLemmas.{twice_half, fits-pos, fits-neg}
use Rattle.pads_bases.proofs.StringLaws.{not_hard}
use Rattle.pads_code.proofs.NumeralLemmas.{spelled_if}

-- what a good reading says
record BinRead (range : Range) (order : Order) (size : ℤ) (bytes : List ℕ) (n : ℕ) (v : ℤ) : Type 0 where
  is : size ≡ pos n
  sized : is_size n ≡ true
  there : n ≤ length bytes
  number : v ≡ bin_number range order (take n bytes)
  within : has_number range v ≡ true

bin_read : (range : Range) (order : Order) (size : ℤ) (bytes : List ℕ) (n : ℕ) (v : ℤ) → bin_reading range order size bytes ≡ Good n v → BinRead range order size bytes n v
unfolding bin_reading
bin_read range order (negsuc s) bytes n v e = cc
bin_read range order (pos s) bytes n v e =
    let w = bin_number range order (take s bytes) in
    let sized = not_hard (not (is_size s)) cause.BadParam (cond (nat_lt (length bytes) s) (Hard cause.Width) (ranged range s w)) n v e in
    let long = not_hard (nat_lt (length bytes) s) cause.Width (ranged range s w) n v sized.1 in
    let good = good_in_range (has_number range w) s w n v long.1 in
    record {
      is = ap pos (sym good.1);
      sized = rw good.1 (not-false (is_size s) sized.0);
      there = omega (arith, good.1, ltb-false _ _ long.0);
      number = rw good.1 good.2;
      within = rw good.2 good.0;
    }

pub bin_within : (range : Range) (order : Order) (size : ℤ) (bytes : List ℕ) (n : ℕ) (v : ℤ) → bin_reading range order size bytes ≡ Good n v → n ≤ length bytes
bin_within range order size bytes n v e = (bin_read range order size bytes n v e).there

pub bin_spelled : (range : Range) (order : Order) (size : ℤ) (bytes : List ℕ) (n : ℕ) (v : ℤ) → bin_reading range order size bytes ≡ Good n v → SpellsBin range order size v (take n bytes)
bin_spelled range order size bytes n v e =
    let r = bin_read range order size bytes n v e in
    let long : length (take n bytes) ≡ n = length-take-le n bytes r.there in
    record { fills = r.is ∙ ap pos (sym long); sized = rw long r.sized; number = r.number; ranged = r.within }

-- the bytes' number is below the power of their length
pub unsigned-lt : (order : Order) (bytes : List ℕ) → unsigned order bytes < 2 ^ (8 * length bytes)
unsigned-lt Low bytes = rw (← pow256 (length bytes)) (mod-lt (little_number (length bytes) bytes) (one-le-pow (length bytes) 256 (omega arith)))
unsigned-lt High bytes = rw (← pow256 (length bytes)) (mod-lt (big_number (length bytes) bytes) (one-le-pow (length bytes) 256 (omega arith)))

size_bounds : (n : ℕ) → is_size n ≡ true → (1 ≤ n) × (n ≤ 8)
size_bounds n h = let both = and_parts (nat_le 1 n) (nat_le n 8) h in (leb-true _ _ both.0, leb-true _ _ both.1)

-- in two's complement a number of the bytes fits them
complement_fits : (n u : ℕ) → 1 ≤ n → n ≤ 8 → u < 2 ^ (8 * n) → fits true n (twos_complement n u) ≡ true
complement_fits n u low high small = elim (cases_lt u (2 ^ (8 * n - 1))) [
  | inl below ↦ rw (lt-ltb u (2 ^ (8 * n - 1)) below) (lt-ltb u (2 ^ (8 * n - 1)) below)
  | inr above ↦
      let gap : pos u -ℤ pos (2 ^ (8 * n)) ≡ negsuc (2 ^ (8 * n) - u - 1) = omega (arith, ints) in
      rw (le-ltb u (2 ^ (8 * n - 1)) above, gap) (lt-ltb (2 ^ (8 * n) - u - 1) (2 ^ (8 * n - 1)) (omega (arith, twice_half n low high)))
]

number_fits : (range : Range) (order : Order) (bytes : List ℕ) → 1 ≤ length bytes → length bytes ≤ 8 → (signed : Bool) → fits signed (length bytes) (cond signed (twos_complement (length bytes) (unsigned order bytes)) (pos (unsigned order bytes))) ≡ true
number_fits range order bytes low high true = complement_fits (length bytes) (unsigned order bytes) low high (unsigned-lt order bytes)
number_fits range order bytes low high false = lt-ltb (unsigned order bytes) (2 ^ (8 * length bytes)) (unsigned-lt order bytes)

length-bytes_in : (order : Order) (n x : ℕ) → length (bytes_in order n x) ≡ n
length-bytes_in Low n x = length-bytes_low_first 0 n x
length-bytes_in High n x = length-bytes_high_first n x

bin_fits : (range : Range) (order : Order) (size : ℤ) (n : ℕ) (v : ℤ) → size ≡ pos n → is_size n ≡ true → has_number range v ≡ true → fits (is_signed range) n v ≡ true → IsSomeAnd (bin_spelling range order size v) (λ s. length s ≤ n)
unfolding bin_spelling
bin_fits range order size n v is sized within place = rw (is, sized, within, place) (omega (arith, length-bytes_in order n (residue n v)))

number_of_field : (range : Range) (order : Order) (field : List ℕ) (n : ℕ) (v : ℤ) → length field ≡ n → 1 ≤ n → n ≤ 8 → v ≡ bin_number range order field → fits (is_signed range) n v ≡ true
number_of_field range order field n v long low high number = rw (number, ← long) (number_fits range order field (omega arith) (omega arith) (is_signed range))

pub bin_canonical : (range : Range) (order : Order) (size : ℤ) (bytes : List ℕ) (n : ℕ) (v : ℤ) → bin_reading range order size bytes ≡ Good n v → IsSomeAnd (bin_spelling range order size v) (λ s. length s ≤ n)
bin_canonical range order size bytes n v e =
    let r = bin_read range order size bytes n v e in
    let bounds = size_bounds n r.sized in
    let field = take n bytes in
    let long : length field ≡ n = length-take-le n bytes r.there in
    bin_fits range order size n v r.is r.sized r.within (number_of_field range order field n v long bounds.0 bounds.1 r.number)

pub bin_reads_back : (range : Range) (order : Order) (size v : ℤ) (bytes : List ℕ) → SpellsBin range order size v bytes → bin_reading range order size bytes ≡ Good (length bytes) v
unfolding bin_reading
bin_reads_back range order size v bytes spells =
    let within : has_number range (bin_number range order bytes) ≡ true = rw spells.number at spells.ranged in
    rw (spells.fills, spells.sized, le-ltb (length bytes) (length bytes) (omega arith), take-length bytes, within, ← spells.number) refl

-- the bytes of a number have that number
unsigned-bytes_in : (order : Order) (n x : ℕ) → x < 2 ^ (8 * n) → unsigned order (bytes_in order n x) ≡ x
unsigned-bytes_in Low n x small =
    let below : x < 256 ^ n = rw (pow256 n) small in
    rw (length-bytes_low_first 0 n x, ← append-nil (bytes_in Low n x), little_number-reads_back n x [] below) (mod-eq_of_lt below)
unsigned-bytes_in High n x small =
    let below : x < 256 ^ n = rw (pow256 n) small in
    rw (length-bytes_high_first n x, ← append-nil (bytes_in High n x), big_number-reads_back n x [] below) (mod-eq_of_lt below)

residue-lt : (signed : Bool) (n : ℕ) (v : ℤ) → 1 ≤ n → n ≤ 8 → fits signed n v ≡ true → residue n v < 2 ^ (8 * n)
residue-lt signed n (pos k) low high place = fits-pos signed n k low high place
residue-lt signed n (negsuc k) low high place = omega (arith, (fits-neg signed n k place).1, twice_half n low high)

complement-residue : (n : ℕ) (v : ℤ) → 1 ≤ n → n ≤ 8 → fits true n v ≡ true → twos_complement n (residue n v) ≡ v
complement-residue n (pos k) low high place = rw place refl
complement-residue n (negsuc k) low high place =
    let small = ltb-true _ _ place in
    let above : nat_lt (2 ^ (8 * n) - suc k) (2 ^ (8 * n - 1)) ≡ false = le-ltb (2 ^ (8 * n) - suc k) (2 ^ (8 * n - 1)) (omega (arith, twice_half n low high)) in
    rw above (omega (arith, ints, twice_half n low high))

plain-residue : (n : ℕ) (v : ℤ) → fits false n v ≡ true → pos (residue n v) ≡ v
plain-residue n (pos k) place = refl
plain-residue n (negsuc k) place = cc

number-residue : (signed : Bool) (n u : ℕ) (v : ℤ) → 1 ≤ n → n ≤ 8 → fits signed n v ≡ true → u ≡ residue n v → cond signed (twos_complement n u) (pos u) ≡ v
number-residue true n u v low high place is = rw is (complement-residue n v low high place)
number-residue false n u v low high place is = rw is (plain-residue n v place)

pub bin_spells : (range : Range) (order : Order) (size v : ℤ) (s : List ℕ) → bin_spelling range order size v ≡ Some s → SpellsBin range order size v s
unfolding bin_spelling
bin_spells range order (negsuc k) v s e = cc
bin_spells range order (pos n) v s e =
    let parts = spelled_if (is_size n && (has_number range v && fits (is_signed range) n v)) (bytes_in order n (residue n v)) s e in
    let sized = and_parts (is_size n) (has_number range v && fits (is_signed range) n v) parts.0 in
    let place = and_parts (has_number range v) (fits (is_signed range) n v) sized.1 in
    let bounds = size_bounds n sized.0 in
    let long : length s ≡ n = ap length parts.1 ∙ length-bytes_in order n (residue n v) in
    let same : unsigned order s ≡ residue n v = ap (unsigned order) parts.1 ∙ unsigned-bytes_in order n (residue n v) (residue-lt (is_signed range) n v bounds.0 bounds.1 place.1) in
    record {
      fills = ap pos (sym long);
      sized = rw long sized.0;
      number = rw long (sym (number-residue (is_signed range) n (unsigned order s) v bounds.0 bounds.1 place.1 same));
      ranged = place.0;
    }

pub bin_canonical_reads_back : (range : Range) (order : Order) (size v : ℤ) (s : List ℕ) → bin_spelling range order size v ≡ Some s → bin_reading range order size s ≡ Good (length s) v
bin_canonical_reads_back range order size v s e = bin_reads_back range order size v s (bin_spells range order size v s e)
