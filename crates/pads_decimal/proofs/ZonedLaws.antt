-- Zoned decimals read what they spell.
use Rattle.std.proofs.Common.{◌≡◌, ℕ, zero, suc, ◌+◌, ◌*◌, ◌-◌, ◌^◌, ◌<◌, ◌≤◌, Bool, true, false, ◌&&◌, cond, nat_lt, ℤ, List, [], ◌∷◌, ◌++◌, length, take, map, replicate, Option, Some, None, refl, sym, ap, ◌∙◌, arith, length-take-le, take_all}
use Rattle.std.specs.Int.Digits.{number_from_digits}
use Rattle.std.specs.Int.RustNames.{unsigned_abs}
use Rattle.std.specs.List.{list_all}
use Rattle.std.specs.Option.{IsSomeAnd}
use Rattle.std.proofs.lemmas.Bool.{and_parts, and_from, ltb-false, ltb-true, le-ltb, lt-ltb}
use Rattle.std.proofs.lemmas.List.{length_push, length-map, length-replicate, map_push, same_from_push}
use Rattle.std.proofs.lemmas.List.Folds.{list_all-append}
use Rattle.std.proofs.lemmas.Nat.{div-mul-add, mod-mul-add}
use Rattle.pads_value.specs.declared.cause.Cause.TheVariants as cause
use Rattle.pads_value.specs.declared.reading.Read.{Read}
use Rattle.pads_value.specs.declared.reading.Read.TheVariants.{Good, Soft, Hard}
use Rattle.pads_decimal.specs.Digits.{digit_count, last_digits, fits}
use Rattle.pads_decimal.specs.HalfBytes.{high, low, is_digit, last, front}
use Rattle.pads_decimal.specs.Signs.{is_sign, with_sign, sign_of}
use Rattle.pads_decimal.specs.Zoned.{zone, is_zoned, zoned_field, zoned_in_front, zoned_reading, in_zones, zones, zoned_bytes, zoned_spelling, SpellsZoned}
use Rattle.pads_decimal.proofs.DigitLemmas.{some_if, CountBounds, count_bounds, number_small, length-last_digits, last_digits-digits, number-last_digits}
use Rattle.pads_decimal.proofs.Good.{not_hard, counted_good, counted_some, size_of_signed, signed_fits, sign_written_is_read, written_sign}
use Rattle.pads_decimal.proofs.Lists.{front_push, last_push, front_and_last, is_half, digits_are_halves, zones_of, digits_in_zones, zoned_from}

-- what a good field says
record GoodField (signed : Bool) (field : List ℕ) (n : ℕ) (v : ℤ) : Type 0 where
  size : n ≡ length field
  zoned : list_all is_zoned (front field) ≡ true
  digit : is_digit (low (last field)) ≡ true
  allowed : is_sign signed (high (last field)) ≡ true
  value : v ≡ with_sign (high (last field)) (number_from_digits 10 (map low field))

good_if : (b : Bool) (size : ℕ) (w : ℤ) (n : ℕ) (v : ℤ) → cond b (Good size w) (Soft size cause.Invalid) ≡ Good n v → (b ≡ true) × (n ≡ size) × (v ≡ w)
good_if true size w n v e = (refl, cc, cc)
good_if false size w n v e = cc

good_field : (signed : Bool) (field : List ℕ) (n : ℕ) (v : ℤ) → zoned_field signed field ≡ Good n v → GoodField signed field n v
unfolding zoned_field
good_field signed field n v e =
    let sign = high (last field) in
    let ends = is_digit (low (last field)) && is_sign signed sign in
    let good = good_if (list_all is_zoned (front field) && ends) (length field) (with_sign sign (number_from_digits 10 (map low field))) n v e in
    let both = and_parts (list_all is_zoned (front field)) ends good.0 in
    let end = and_parts (is_digit (low (last field))) (is_sign signed sign) both.1 in
    record { size = good.1; zoned = both.0; digit = end.0; allowed = end.1; value = good.2 }

-- what a good reading says
record ZonedRead (digits : ℤ) (signed : Bool) (bytes : List ℕ) (n : ℕ) (v : ℤ) : Type 0 where
  counted : digit_count digits ≡ Some n
  there : n ≤ length bytes
  field : GoodField signed (take n bytes) n v

front_read : (signed : Bool) (bytes : List ℕ) (count n : ℕ) (v : ℤ) → zoned_in_front signed bytes count ≡ Good n v → (count ≤ length bytes) × (zoned_field signed (take count bytes) ≡ Good n v)
unfolding zoned_in_front
front_read signed bytes count n v e =
    let long = not_hard (nat_lt (length bytes) count) cause.Width (zoned_field signed (take count bytes)) n v e in
    (ltb-false (length bytes) count long.0, long.1)

zoned_read : (digits : ℤ) (signed : Bool) (bytes : List ℕ) (n : ℕ) (v : ℤ) → zoned_reading digits signed bytes ≡ Good n v → ZonedRead digits signed bytes n v
unfolding zoned_reading
zoned_read digits signed bytes n v e =
    let c = counted_good (zoned_in_front signed bytes) (digit_count digits) cause.BadParam n v e in
    let f = front_read signed bytes c.count n v c.good in
    let good = good_field signed (take c.count bytes) n v f.1 in
    let wide : n ≡ c.count = good.size ∙ length-take-le c.count bytes f.0 in
    record { counted = c.counted ∙ ap Some (sym wide); there = omega (arith, f.0); field = rw (← wide) at good }

pub zoned_within : (digits : ℤ) (signed : Bool) (bytes : List ℕ) (n : ℕ) (v : ℤ) → zoned_reading digits signed bytes ≡ Good n v → n ≤ length bytes
zoned_within digits signed bytes n v e = (zoned_read digits signed bytes n v e).there

-- a good field has its zones and digits
zones_of_field : (signed : Bool) (field : List ℕ) (n : ℕ) (v : ℤ) → 0 < length field → GoodField signed field n v → map high field ≡ zones n (high (last field))
zones_of_field signed field n v some good =
    let parts = front_and_last field some in
    let size : length (front field) ≡ n - 1 = omega (arith, ap length parts, length_push (front field) (last field), good.size) in
    ap (map high) parts ∙ map_push high (front field) (last field) ∙ ap (λ zs. zs ++ high (last field) ∷ []) (zones_of (front field) good.zoned ∙ ap (λ k. replicate k zone) size)

digits_of_field : (signed : Bool) (field : List ℕ) (n : ℕ) (v : ℤ) → 0 < length field → GoodField signed field n v → list_all is_digit (map low field) ≡ true
digits_of_field signed field n v some good =
    let parts = front_and_last field some in
    let lows : map low field ≡ map low (front field) ++ low (last field) ∷ [] = ap (map low) parts ∙ map_push low (front field) (last field) in
    rw (lows, list_all-append is_digit (map low (front field)) (low (last field) ∷ []), digits_in_zones (front field) good.zoned, good.digit) refl

pub zoned_spelled : (digits : ℤ) (signed : Bool) (bytes : List ℕ) (n : ℕ) (v : ℤ) → zoned_reading digits signed bytes ≡ Good n v → SpellsZoned digits signed v (take n bytes)
zoned_spelled digits signed bytes n v e =
    let r = zoned_read digits signed bytes n v e in
    let field = take n bytes in
    let long : length field ≡ n = length-take-le n bytes r.there in
    let some : 0 < length field = omega (arith, long, (count_bounds digits n r.counted).some) in
    record {
      count = n;
      counted = r.counted;
      many = long;
      decimal = digits_of_field signed field n v some r.field;
      sign = high (last field);
      allowed = r.field.allowed;
      zoned = zones_of_field signed field n v some r.field;
      value = r.field.value;
    }

spelling_there : (digits : ℤ) (signed : Bool) (v : ℤ) (count : ℕ) → digit_count digits ≡ Some count → fits count signed v ≡ true
    → zoned_spelling digits signed v ≡ Some (in_zones (zones count (sign_of signed v)) (last_digits count (unsigned_abs v)))
unfolding zoned_spelling zoned_bytes
spelling_there digits signed v count counted fit = rw (counted, fit) refl

length-zones : (count sign : ℕ) → 1 ≤ count → length (zones count sign) ≡ count
length-zones count sign some = omega (arith, length_push (replicate (count - 1) zone) sign, length-replicate {A = ℕ} (count - 1) zone)

length-in_zones : (zs ds : List ℕ) → length (in_zones zs ds) ≤ length zs
length-in_zones [] ds = omega arith
length-in_zones (z ∷ zs) [] = omega arith
length-in_zones (z ∷ zs) (d ∷ ds) = omega (arith, length-in_zones zs ds)

pub zoned_canonical : (digits : ℤ) (signed : Bool) (bytes : List ℕ) (n : ℕ) (v : ℤ) → zoned_reading digits signed bytes ≡ Good n v → IsSomeAnd (zoned_spelling digits signed v) (λ s. length s ≤ n)
zoned_canonical digits signed bytes n v e =
    let s = zoned_spelled digits signed bytes n v e in
    let r = zoned_read digits signed bytes n v e in
    let ds = map low (take n bytes) in
    let size : length ds ≡ n = length-map (take n bytes) low ∙ length-take-le n bytes r.there in
    let small = number_small ds n s.decimal (omega arith) in
    let fit : fits n signed v ≡ true = rw s.value (signed_fits n signed s.sign (number_from_digits 10 ds) s.allowed small) in
    rw (spelling_there digits signed v n r.counted fit)
    (omega (arith, length-in_zones (zones n (sign_of signed v)) (last_digits n (unsigned_abs v)), length-zones n (sign_of signed v) (count_bounds digits n r.counted).some))

-- a field that spells a number is read as the number
field_is_read : (signed : Bool) (front_bytes : List ℕ) (byte k sign : ℕ) → map high (front_bytes ++ byte ∷ []) ≡ replicate k zone ++ sign ∷ [] → list_all is_digit (map low (front_bytes ++ byte ∷ [])) ≡ true → is_sign signed sign ≡ true
    → zoned_field signed (front_bytes ++ byte ∷ []) ≡ Good (length (front_bytes ++ byte ∷ [])) (with_sign sign (number_from_digits 10 (map low (front_bytes ++ byte ∷ []))))
unfolding zoned_field
field_is_read signed fs byte k sign highs lows allowed =
    let apart = same_from_push (map high fs) (replicate k zone) (high byte) sign (sym (map_push high fs byte) ∙ highs) in
    let all : (list_all is_digit (map low fs) && list_all is_digit (low byte ∷ [])) ≡ true = sym (list_all-append is_digit (map low fs) (low byte ∷ [])) ∙ ap (list_all is_digit) (sym (map_push low fs byte)) ∙ lows in
    let both = and_parts (list_all is_digit (map low fs)) (list_all is_digit (low byte ∷ [])) all in
    let here = and_parts (is_digit (low byte)) true both.1 in
    rw (front_push fs byte, last_push fs byte, zoned_from fs k apart.0 both.0, here.0, apart.1, allowed) refl

pub zoned_reads_back : (digits : ℤ) (signed : Bool) (v : ℤ) (bytes : List ℕ) → SpellsZoned digits signed v bytes → zoned_reading digits signed bytes ≡ Good (length bytes) v
unfolding zoned_reading zoned_in_front
zoned_reads_back digits signed v bytes s =
    let some = (count_bounds digits s.count s.counted).some in
    let long : nat_lt (length bytes) s.count ≡ false = le-ltb (length bytes) s.count (omega (arith, s.many)) in
    let whole : take s.count bytes ≡ bytes = take_all s.count bytes (omega (arith, s.many)) in
    let parts = front_and_last bytes (omega (arith, s.many)) in
    let read = field_is_read signed (front bytes) (last bytes) (s.count - 1) s.sign (ap (map high) (sym parts) ∙ s.zoned) (ap (λ xs. list_all is_digit (map low xs)) (sym parts) ∙ s.decimal) s.allowed in
    rw (s.counted, long, whole) ((rw (← parts) at read) ∙ ap (Good (length bytes)) (sym s.value))

-- bytes of zones and digits have these zones and digits

high-in_zones : (zs ds : List ℕ) → length zs ≡ length ds → list_all is_half ds ≡ true → map high (in_zones zs ds) ≡ zs
high-in_zones [] ds same all = refl
high-in_zones (z ∷ zs) [] same all = absurd (omega arith)
high-in_zones (z ∷ zs) (d ∷ ds) same all =
    let both = and_parts (is_half d) (list_all is_half ds) all in
    rw (div-mul-add z 16 d (ltb-true d 16 both.0), high-in_zones zs ds (omega arith) both.1) refl

low-in_zones : (zs ds : List ℕ) → length zs ≡ length ds → list_all is_half ds ≡ true → map low (in_zones zs ds) ≡ ds
low-in_zones [] [] same all = refl
low-in_zones [] (d ∷ ds) same all = absurd (omega arith)
low-in_zones (z ∷ zs) [] same all = absurd (omega arith)
low-in_zones (z ∷ zs) (d ∷ ds) same all =
    let both = and_parts (is_half d) (list_all is_half ds) all in
    rw (mod-mul-add z 16 d (ltb-true d 16 both.0), low-in_zones zs ds (omega arith) both.1) refl

spells_bytes : (digits : ℤ) (signed : Bool) (v : ℤ) (count : ℕ) (s : List ℕ) → digit_count digits ≡ Some count → zoned_bytes signed v count ≡ Some s → SpellsZoned digits signed v s
unfolding zoned_bytes
spells_bytes digits signed v count s counted e =
    let m = unsigned_abs v in
    let sign = sign_of signed v in
    let ds = last_digits count m in
    let parts = some_if (fits count signed v) (in_zones (zones count sign) ds) s e in
    let fit = written_sign count signed v parts.0 in
    let same : length (zones count sign) ≡ length ds = length-zones count sign (count_bounds digits count counted).some ∙ sym (length-last_digits count m) in
    let small = digits_are_halves ds (last_digits-digits count m) in
    let lows : map low s ≡ ds = ap (map low) parts.1 ∙ low-in_zones (zones count sign) ds same small in
    record {
      count = count;
      counted = counted;
      many = sym (length-map s low) ∙ ap length lows ∙ length-last_digits count m;
      decimal = ap (list_all is_digit) lows ∙ last_digits-digits count m;
      sign = sign;
      allowed = sign_written_is_read signed v fit.0;
      zoned = ap (map high) parts.1 ∙ high-in_zones (zones count sign) ds same small;
      value = sym (rw (lows, number-last_digits count m fit.1) (size_of_signed signed v));
    }

pub zoned_spells : (digits : ℤ) (signed : Bool) (v : ℤ) (s : List ℕ) → zoned_spelling digits signed v ≡ Some s → SpellsZoned digits signed v s
unfolding zoned_spelling
zoned_spells digits signed v s e = let c = counted_some (zoned_bytes signed v) (digit_count digits) s e in spells_bytes digits signed v c.count s c.counted c.gives

pub zoned_canonical_reads_back : (digits : ℤ) (signed : Bool) (v : ℤ) (s : List ℕ) → zoned_spelling digits signed v ≡ Some s → zoned_reading digits signed s ≡ Good (length s) v
zoned_canonical_reads_back digits signed v s e = zoned_reads_back digits signed v s (zoned_spells digits signed v s e)
