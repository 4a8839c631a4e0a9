-- Packed decimals read what they spell.
use Rattle.std.proofs.Common.{◌≡◌, ℕ, suc, ◌+◌, ◌*◌, ◌-◌, ◌/◌, ◌%◌, ◌^◌, ◌<◌, ◌≤◌, Bool, true, false, ◌&&◌, ◌||◌, cond, not, nat_eq, nat_lt, int_lt, ℤ, pos, negsuc, neg_ℤ, List, [], ◌∷◌, ◌++◌, length, take, get_or, Option, Some, None, refl, sym, ap, ◌∙◌, arith, append_assoc, length-append, length-take-le, take_all}
use Rattle.std.specs.Int.Digits.{number_from_digits}
use Rattle.std.specs.Int.RustNames.{unsigned_abs}
use Rattle.std.specs.List.{list_all}
use Rattle.std.specs.Option.{IsSomeAnd, option_map_or}
use Rattle.std.proofs.lemmas.Bool.{and_parts, and_from, not-false, not-true, eqb-true, eqb-false, ltb-false, ltb-true, le-ltb, lt-ltb}
use Rattle.std.proofs.lemmas.List.{get_or_append_left, length_push}
use Rattle.std.proofs.lemmas.List.Folds.{list_all-append}
use Rattle.pads_value.specs.declared.cause.Cause.{Cause}
use Rattle.pads_value.specs.declared.cause.Cause.TheVariants as cause
use Rattle.pads_value.specs.declared.reading.Read.{Read}
use Rattle.pads_value.specs.declared.reading.Read.TheVariants.{Good, Soft, Hard}
use Rattle.pads_decimal.specs.Digits.{digit_count, last_digits, fits}
use Rattle.pads_decimal.specs.HalfBytes.{is_digit, halves, joined, last, front}
use Rattle.pads_decimal.specs.Signs.{is_sign, with_sign, sign_of}
use Rattle.pads_decimal.specs.Packed.{packed_width, is_padded, pad, packed_field, packed_in_front, packed_reading, packed_bytes, packed_spelling, SpellsPacked}
use Rattle.pads_decimal.proofs.DigitLemmas.{some_if, count_bounds, number_small, length-last_digits, last_digits-digits, number-last_digits, many_behind_pad}
use Rattle.pads_decimal.proofs.Lists.{front_push, last_push, front_and_last, length-halves, is_half, halves-joined, length-joined, digits_are_halves}
use Rattle.pads_decimal.proofs.Good.{not_hard, not_soft, Counted, counted_good, counted_some, size_of_signed, signed_fits, sign_written_is_read, sign_written_is_half, written_sign}

-- what a good field says
record GoodField (padded signed : Bool) (field : List ℕ) (n : ℕ) (v : ℤ) : Type 0 where
  size : n ≡ length field
  decimal : list_all is_digit (front (halves field)) ≡ true
  allowed : is_sign signed (last (halves field)) ≡ true
  zero : (padded && not (nat_eq (get_or (halves field) 0 0) 0)) ≡ false
  value : v ≡ with_sign (last (halves field)) (number_from_digits 10 (front (halves field)))

good_field : (padded signed : Bool) (field : List ℕ) (n : ℕ) (v : ℤ) → packed_field padded signed field ≡ Good n v → GoodField padded signed field n v
unfolding packed_field
good_field padded signed field n v e =
    let digits = front (halves field) in
    let sign = last (halves field) in
    let w = with_sign sign (number_from_digits 10 digits) in
    let other = padded && not (nat_eq (get_or (halves field) 0 0) 0) in
    let valid = not_soft (not (list_all is_digit digits && is_sign signed sign)) cause.Invalid (length field) (cond other (Soft (length field) cause.Range) (Good (length field) w)) n v e in
    let ranged = not_soft other cause.Range (length field) (Good (length field) w) n v valid.1 in
    let good : Good (length field) w ≡ Good n v = ranged.1 in
    let both = and_parts (list_all is_digit digits) (is_sign signed sign) (not-false _ valid.0) in
    record { size = cc; decimal = both.0; allowed = both.1; zero = ranged.0; value = cc }

-- the digits behind the pad
record BehindPad (padded : Bool) (digits : List ℕ) : Type 0 where
  written : List ℕ
  parts : digits ≡ pad padded ++ written
  decimal : list_all is_digit written ≡ true
  number : number_from_digits 10 digits ≡ number_from_digits 10 written

behind_pad : (padded : Bool) (digits : List ℕ) → 0 < length digits → list_all is_digit digits ≡ true → (padded && not (nat_eq (get_or digits 0 0) 0)) ≡ false → BehindPad padded digits
behind_pad false digits some all first = record { written = digits; parts = refl; decimal = all; number = refl }
behind_pad true [] some all first = absurd (omega arith)
behind_pad true (d ∷ ds) some all first =
    let is_zero : d ≡ 0 = eqb-true d 0 (not_not (nat_eq d 0) first) in
    let both = and_parts (is_digit d) (list_all is_digit ds) all in
    record { written = ds; parts = rw is_zero refl; decimal = both.1; number = rw is_zero refl }
  where
    not_not : (b : Bool) → not b ≡ false → b ≡ true
    not_not true h = refl
    not_not false h = cc

-- what a good reading says
record PackedRead (digits : ℤ) (signed : Bool) (bytes : List ℕ) (n : ℕ) (v : ℤ) : Type 0 where
  count : ℕ
  counted : digit_count digits ≡ Some count
  width : n ≡ packed_width count
  there : n ≤ length bytes
  field : GoodField (is_padded count) signed (take n bytes) n v

front_read : (signed : Bool) (bytes : List ℕ) (count n : ℕ) (v : ℤ) → packed_in_front signed bytes count ≡ Good n v
    → (packed_width count ≤ length bytes) × (packed_field (is_padded count) signed (take (packed_width count) bytes) ≡ Good n v)
unfolding packed_in_front
front_read signed bytes count n v e =
    let width = packed_width count in
    let long = not_hard (nat_lt (length bytes) width) cause.Width (packed_field (is_padded count) signed (take width bytes)) n v e in
    (ltb-false (length bytes) width long.0, long.1)

packed_read : (digits : ℤ) (signed : Bool) (bytes : List ℕ) (n : ℕ) (v : ℤ) → packed_reading digits signed bytes ≡ Good n v → PackedRead digits signed bytes n v
unfolding packed_reading
packed_read digits signed bytes n v e =
    let c = counted_good (packed_in_front signed bytes) (digit_count digits) cause.BadParam n v e in
    let f = front_read signed bytes c.count n v c.good in
    let good = good_field (is_padded c.count) signed (take (packed_width c.count) bytes) n v f.1 in
    let wide : n ≡ packed_width c.count = good.size ∙ length-take-le (packed_width c.count) bytes f.0 in
    record { count = c.count; counted = c.counted; width = wide; there = omega (arith, f.0); field = rw (← wide) at good }

pub packed_within : (digits : ℤ) (signed : Bool) (bytes : List ℕ) (n : ℕ) (v : ℤ) → packed_reading digits signed bytes ≡ Good n v → n ≤ length bytes
packed_within digits signed bytes n v e = (packed_read digits signed bytes n v e).there

grouped : (hs ds pads written : List ℕ) (sign : ℕ) → hs ≡ ds ++ sign ∷ [] → ds ≡ pads ++ written → hs ≡ pads ++ (written ++ sign ∷ [])
grouped hs ds pads written sign is are = is ∙ ap (λ xs. xs ++ sign ∷ []) are ∙ append_assoc pads written (sign ∷ [])

pub packed_spelled : (digits : ℤ) (signed : Bool) (bytes : List ℕ) (n : ℕ) (v : ℤ) → packed_reading digits signed bytes ≡ Good n v → SpellsPacked digits signed v (take n bytes)
packed_spelled digits signed bytes n v e =
    let r = packed_read digits signed bytes n v e in
    let hs = halves (take n bytes) in
    let long : length hs ≡ 2 * n = length-halves (take n bytes) ∙ ap (λ k. 2 * k) (length-take-le n bytes r.there) in
    let parts : hs ≡ front hs ++ last hs ∷ [] = front_and_last hs (omega (arith, r.width)) in
    let size : length hs ≡ length (front hs) + 1 = ap length parts ∙ length_push (front hs) (last hs) in
    let some : 0 < length (front hs) = omega (arith, r.width) in
    let same : get_or hs 0 0 ≡ get_or (front hs) 0 0 = ap (λ xs. get_or xs 0 0) parts ∙ get_or_append_left (front hs) (last hs ∷ []) 0 0 some in
    let w = behind_pad (is_padded r.count) (front hs) some r.field.decimal (rw same at r.field.zero) in
    let shared : length (front hs) ≡ length (pad (is_padded r.count)) + length w.written = ap length w.parts ∙ length-append (pad (is_padded r.count)) w.written in
    record {
      count = r.count;
      counted = r.counted;
      written = w.written;
      many = many_behind_pad r.count (length w.written) (is_padded r.count) refl (omega (arith, r.width));
      decimal = w.decimal;
      sign = last hs;
      allowed = r.field.allowed;
      parts = grouped hs (front hs) (pad (is_padded r.count)) w.written (last hs) parts w.parts;
      value = r.field.value ∙ ap (with_sign (last hs)) w.number;
    }

spelling_there : (digits : ℤ) (signed : Bool) (v : ℤ) (count : ℕ) → digit_count digits ≡ Some count → fits count signed v ≡ true
    → packed_spelling digits signed v ≡ Some (joined (pad (is_padded count) ++ (last_digits count (unsigned_abs v) ++ sign_of signed v ∷ [])))
unfolding packed_spelling packed_bytes
spelling_there digits signed v count counted fit = rw (counted, fit) refl

-- how many half bytes so many digits have
half_bytes : (count m : ℕ) (sign : ℕ) (padded : Bool) → is_padded count ≡ padded → length (pad padded ++ (last_digits count m ++ sign ∷ [])) ≡ 2 * packed_width count
half_bytes count m sign true e =
    let even : nat_eq (count % 2) 0 ≡ true = e in
    omega (arith, eqb-true (count % 2) 0 even, length_push (last_digits count m) sign, length-last_digits count m)
half_bytes count m sign false e =
    omega (arith, odd_from count e, length_push (last_digits count m) sign, length-last_digits count m)
  where
    odd_from : (k : ℕ) → nat_eq (k % 2) 0 ≡ false → k % 2 ≡ 1
    odd_from k h = let odd = eqb-false (k % 2) 0 h in omega (arith, odd)

pub packed_canonical : (digits : ℤ) (signed : Bool) (bytes : List ℕ) (n : ℕ) (v : ℤ) → packed_reading digits signed bytes ≡ Good n v → IsSomeAnd (packed_spelling digits signed v) (λ s. length s ≤ n)
packed_canonical digits signed bytes n v e =
    let r = packed_read digits signed bytes n v e in
    let s = packed_spelled digits signed bytes n v e in
    let small = number_small s.written s.count s.decimal (omega (arith, s.many)) in
    let fit : fits s.count signed v ≡ true = ap (fits s.count signed) s.value ∙ signed_fits s.count signed s.sign (number_from_digits 10 s.written) s.allowed small in
    let hs = pad (is_padded s.count) ++ (last_digits s.count (unsigned_abs v) ++ sign_of signed v ∷ []) in
    let counts : Some s.count ≡ Some r.count = sym s.counted ∙ r.counted in
    let same : s.count ≡ r.count = cc in
    rw (spelling_there digits signed v s.count s.counted fit)
    (omega (arith, length-joined hs, half_bytes s.count (unsigned_abs v) (sign_of signed v) (is_padded s.count) refl, r.width))

-- a field that spells a number is read as the number
field_is_read : (padded signed : Bool) (field written : List ℕ) (sign : ℕ) → halves field ≡ pad padded ++ (written ++ sign ∷ []) → list_all is_digit written ≡ true → is_sign signed sign ≡ true
    → packed_field padded signed field ≡ Good (length field) (with_sign sign (number_from_digits 10 written))
unfolding packed_field
field_is_read false signed field written sign parts all allowed = rw (parts, front_push written sign, last_push written sign, all, allowed) refl
field_is_read true signed field written sign parts all allowed = rw (parts, front_push (0 ∷ written) sign, last_push (0 ∷ written) sign, all, allowed) refl

pub packed_reads_back : (digits : ℤ) (signed : Bool) (v : ℤ) (bytes : List ℕ) → SpellsPacked digits signed v bytes → packed_reading digits signed bytes ≡ Good (length bytes) v
unfolding packed_reading packed_in_front
packed_reads_back digits signed v bytes s =
    let wide : length bytes ≡ packed_width s.count = width_of s.count (length bytes) (is_padded s.count) refl (omega (arith, length-halves bytes, ap length s.parts, length-append (pad (is_padded s.count)) (s.written ++ s.sign ∷ []), length_push s.written s.sign, s.many)) in
    let long : nat_lt (length bytes) (packed_width s.count) ≡ false = le-ltb (length bytes) (packed_width s.count) (omega arith) in
    let whole : take (packed_width s.count) bytes ≡ bytes = take_all (packed_width s.count) bytes (omega arith) in
    rw (s.counted, long, whole, field_is_read (is_padded s.count) signed bytes s.written s.sign s.parts s.decimal s.allowed, ← s.value) refl
  where
    width_of : (count n : ℕ) (padded : Bool) → is_padded count ≡ padded → 2 * n ≡ length (pad padded) + (count + 1) → n ≡ packed_width count
    width_of count n true e all = omega (arith, eqb-true (count % 2) 0 e)
    width_of count n false e all = omega arith

spells_bytes : (digits : ℤ) (signed : Bool) (v : ℤ) (count : ℕ) (s : List ℕ) → digit_count digits ≡ Some count → packed_bytes signed v count ≡ Some s → SpellsPacked digits signed v s
unfolding packed_bytes
spells_bytes digits signed v count s counted e =
    let m = unsigned_abs v in
    let sign = sign_of signed v in
    let hs = pad (is_padded count) ++ (last_digits count m ++ sign ∷ []) in
    let parts = some_if (fits count signed v) (joined hs) s e in
    let fit = written_sign count signed v parts.0 in
    let even : length hs % 2 ≡ 0 = omega (arith, half_bytes count m sign (is_padded count) refl) in
    let small : list_all is_half hs ≡ true = halves_are_small (is_padded count) (last_digits count m) sign (last_digits-digits count m) (sign_written_is_half signed v) in
    record {
      count = count;
      counted = counted;
      written = last_digits count m;
      many = length-last_digits count m;
      decimal = last_digits-digits count m;
      sign = sign;
      allowed = sign_written_is_read signed v fit.0;
      parts = rw parts.1 (halves-joined hs small even);
      value = sym (rw (number-last_digits count m fit.1) (size_of_signed signed v));
    }
  where
    halves_are_small : (padded : Bool) (ds : List ℕ) (sign : ℕ) → list_all is_digit ds ≡ true → is_half sign ≡ true → list_all is_half (pad padded ++ (ds ++ sign ∷ [])) ≡ true
    halves_are_small true ds sign all half = rw (list_all-append is_half ds (sign ∷ []), digits_are_halves ds all, half) refl
    halves_are_small false ds sign all half = rw (list_all-append is_half ds (sign ∷ []), digits_are_halves ds all, half) refl

pub packed_spells : (digits : ℤ) (signed : Bool) (v : ℤ) (s : List ℕ) → packed_spelling digits signed v ≡ Some s → SpellsPacked digits signed v s
unfolding packed_spelling
packed_spells digits signed v s e = let c = counted_some (packed_bytes signed v) (digit_count digits) s e in spells_bytes digits signed v c.count s c.counted c.gives

pub packed_canonical_reads_back : (digits : ℤ) (signed : Bool) (v : ℤ) (s : List ℕ) → packed_spelling digits signed v ≡ Some s → packed_reading digits signed s ≡ Good (length s) v
packed_canonical_reads_back digits signed v s e = packed_reads_back digits signed v s (packed_spells digits signed v s e)
