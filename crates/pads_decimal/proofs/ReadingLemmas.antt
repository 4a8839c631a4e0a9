-- What the steps of the code make of the bytes is their reading.
use Rattle.std.proofs.Common.{◌≡◌, ℕ, suc, ◌+◌, ◌*◌, ◌-◌, ◌/◌, ◌%◌, ◌^◌, ◌<◌, ◌≤◌, Bool, true, false, ◌&&◌, cond, not, nat_eq, nat_lt, ℤ, List, [], ◌∷◌, ◌++◌, length, take, get_or, map, Option, Some, None, slice_get, refl, sym, ap, ◌∙◌, arith, append_assoc, length-take, take_all}
use Rattle.std.specs.Int.Digits.{number_from_digits, number_from_digits_after}
use Rattle.std.specs.List.{list_all}
use Rattle.std.proofs.lemmas.Bool.{and_from, lt-ltb, le-ltb}
use Rattle.std.proofs.Math.Bool.{and-false}
use Rattle.std.proofs.lemmas.Int.Digits.{number_after_append, number_push}
use Rattle.std.proofs.lemmas.List.{take_more, map_more, map_push, length-map}
use Rattle.std.proofs.lemmas.List.Folds.{list_all-append, list_all_more, list_all_at}
use Rattle.pads_value.specs.declared.cause.Cause.TheVariants as cause
use Rattle.pads_value.specs.declared.reading.Read.TheVariants.{Good, Soft, Hard}
use Rattle.pads_decimal.specs.Digits.{digit_count}
use Rattle.pads_decimal.specs.HalfBytes.{high, low, is_digit, halves, last, front}
use Rattle.pads_decimal.specs.Numbers.{number_of, is_pair, pair_of, zoned_digit_of, zoned_number_of}
use Rattle.pads_decimal.specs.Packed.{packed_field, packed_in_front, packed_reading}
use Rattle.pads_decimal.specs.Signs.{is_sign, with_sign}
use Rattle.pads_decimal.specs.Zoned.{is_zoned, zoned_field, zoned_in_front, zoned_reading}
use Rattle.pads_decimal.proofs.DigitLemmas.{some_if, number_small}
use Rattle.pads_decimal.proofs.Lists.{front_push, last_push, halves-append, length-halves, front_halves, last_halves, all_pairs, digits_in_zones}

none_if : {A : Type 0} (b : Bool) (x : A) → None ≡ cond b (Some x) None → b ≡ false
none_if true x e = cc
none_if false x e = refl

-- the digits of whole bytes

pub pairs_stop : (bytes : List ℕ) (k : ℕ) → k < length bytes → None ≡ pair_of (get_or bytes k 0) → None ≡ number_of (halves bytes)
unfolding number_of
pairs_stop bytes k lt none =
    let byte = get_or bytes k 0 in
    let no = none_if (is_pair byte) (high byte * 10 + low byte) none in
    let all : list_all is_digit (halves bytes) ≡ false = all_pairs bytes ∙ list_all_at is_pair bytes k 0 lt no in
    rw all refl

pub record PairsRead (bytes : List ℕ) (k number : ℕ) : Type 0 where
  pub digits : list_all is_digit (halves (take k bytes)) ≡ true
  pub value : number ≡ number_from_digits 10 (halves (take k bytes))

pub pairs_more : (bytes : List ℕ) (k number pair : ℕ) → k < length bytes → Some pair ≡ pair_of (get_or bytes k 0) → PairsRead bytes k number → PairsRead bytes (k + 1) (number * 100 + pair)
pairs_more bytes k number pair lt some read =
    let byte = get_or bytes k 0 in
    let is = some_if (is_pair byte) (high byte * 10 + low byte) pair (sym some) in
    let front_bytes = take k bytes in
    let more : halves (take (k + 1) bytes) ≡ halves front_bytes ++ high byte ∷ low byte ∷ [] = ap halves (take_more bytes k 0 lt) ∙ halves-append front_bytes (byte ∷ []) in
    let value : number_from_digits 10 (halves front_bytes ++ high byte ∷ low byte ∷ []) ≡ (number_from_digits 10 (halves front_bytes) * 10 + high byte) * 10 + low byte = number_after_append 10 0 (halves front_bytes) (high byte ∷ low byte ∷ []) in
    record {
      digits = all_pairs (take (k + 1) bytes) ∙ list_all_more is_pair bytes k 0 lt ∙ and_from (list_all is_pair front_bytes) (is_pair byte) (sym (all_pairs front_bytes) ∙ read.digits) is.0;
      value = rw (more, value, ← read.value, is.1) (omega arith);
    }

pub pairs_small : (bytes : List ℕ) (k number m : ℕ) → 2 * k ≤ m → PairsRead bytes k number → number < 10 ^ m
pairs_small bytes k number m few read = rw read.value (number_small (halves (take k bytes)) m read.digits (omega (arith, length-halves (take k bytes), length-take k bytes)))

pub pairs_done : (bytes : List ℕ) (k number : ℕ) → length bytes ≤ k → PairsRead bytes k number → Some number ≡ number_of (halves bytes)
unfolding number_of
pairs_done bytes k number all read =
    let whole : take k bytes ≡ bytes = take_all k bytes all in
    let digits : list_all is_digit (halves bytes) ≡ true = ap (λ xs. list_all is_digit (halves xs)) (sym whole) ∙ read.digits in
    let value : number ≡ number_from_digits 10 (halves bytes) = read.value ∙ ap (λ xs. number_from_digits 10 (halves xs)) whole in
    rw (digits, value) refl

-- the digits in front of a half byte, and one more

pub one_digit_more : (hs : List ℕ) (number digit : ℕ) → Some number ≡ number_of hs → digit < 10 → Some (number * 10 + digit) ≡ number_of (hs ++ digit ∷ [])
unfolding number_of
one_digit_more hs number digit some lt =
    let is = some_if (list_all is_digit hs) (number_from_digits 10 hs) number (sym some) in
    let here : nat_lt digit 10 ≡ true = lt-ltb digit 10 lt in
    let value : number * 10 + digit ≡ number_from_digits 10 hs * 10 + digit = ap (λ n. n * 10 + digit) is.1 in
    rw (list_all-append is_digit hs (digit ∷ []), is.0, here, number_push 10 hs digit) (ap Some value)

pub none_before : (hs : List ℕ) (digit : ℕ) → None ≡ number_of hs → None ≡ number_of (hs ++ digit ∷ [])
unfolding number_of
none_before hs digit none =
    let no = none_if (list_all is_digit hs) (number_from_digits 10 hs) none in
    rw (list_all-append is_digit hs (digit ∷ []), no) refl

pub none_last : (hs : List ℕ) (digit : ℕ) → 10 ≤ digit → None ≡ number_of (hs ++ digit ∷ [])
unfolding number_of
none_last hs digit le =
    let no : nat_lt digit 10 ≡ false = le-ltb digit 10 le in
    rw (list_all-append is_digit hs (digit ∷ []), no, and-false (list_all is_digit hs)) refl

-- a whole packed field

pub first_half : (field : List ℕ) (byte : ℕ) → Some byte ≡ slice_get field 0 → get_or (halves field) 0 0 ≡ byte / 16
first_half [] byte first = cc
first_half (x ∷ xs) byte first = let is : byte ≡ x = cc in rw is refl

pub first_half_none : (field : List ℕ) → None ≡ slice_get field 0 → get_or (halves field) 0 0 ≡ 0
first_half_none [] first = refl
first_half_none (x ∷ xs) first = cc

pub packed_empty : (padded signed : Bool) (field : List ℕ) → length field ≡ 0 → Soft 0 cause.Invalid ≡ packed_field padded signed field
unfolding packed_field
packed_empty padded true [] none = refl
packed_empty padded false [] none = refl
packed_empty padded signed (x ∷ xs) none = absurd (omega arith)

-- the digits and the sign of a field by its last byte
record Parts (field hs : List ℕ) (sign : ℕ) : Type 0 where
  digits : front (halves field) ≡ hs
  last_half : last (halves field) ≡ sign

parts_of : (field fs : List ℕ) (byte : ℕ) → field ≡ fs ++ byte ∷ [] → Parts field (halves fs ++ high byte ∷ []) (low byte)
parts_of field fs byte is = record { digits = ap (λ xs. front (halves xs)) is ∙ front_halves fs byte; last_half = ap (λ xs. last (halves xs)) is ∙ last_halves fs byte }

pub packed_other_digit : (padded signed : Bool) (field fs : List ℕ) (byte : ℕ) → field ≡ fs ++ byte ∷ [] → None ≡ number_of (halves fs ++ high byte ∷ [])
    → Soft (length field) cause.Invalid ≡ packed_field padded signed field
unfolding packed_field number_of
packed_other_digit padded signed field fs byte is none =
    let p = parts_of field fs byte is in
    let hs = halves fs ++ high byte ∷ [] in
    let no = none_if (list_all is_digit hs) (number_from_digits 10 hs) none in
    rw (p.digits, no) refl

pub packed_other_sign : (padded signed : Bool) (field fs : List ℕ) (byte number : ℕ) → field ≡ fs ++ byte ∷ [] → Some number ≡ number_of (halves fs ++ high byte ∷ [])
    → is_sign signed (low byte) ≡ false → Soft (length field) cause.Invalid ≡ packed_field padded signed field
unfolding packed_field number_of
packed_other_sign padded signed field fs byte number is some other =
    let p = parts_of field fs byte is in
    let hs = halves fs ++ high byte ∷ [] in
    let all = some_if (list_all is_digit hs) (number_from_digits 10 hs) number (sym some) in
    rw (p.digits, p.last_half, all.0, other) refl

pub packed_pad_used : (padded signed : Bool) (field fs : List ℕ) (byte number : ℕ) → field ≡ fs ++ byte ∷ [] → Some number ≡ number_of (halves fs ++ high byte ∷ [])
    → is_sign signed (low byte) ≡ true → (padded && not (nat_eq (get_or (halves field) 0 0) 0)) ≡ true → Soft (length field) cause.Range ≡ packed_field padded signed field
unfolding packed_field number_of
packed_pad_used padded signed field fs byte number is some allowed used =
    let p = parts_of field fs byte is in
    let hs = halves fs ++ high byte ∷ [] in
    let all = some_if (list_all is_digit hs) (number_from_digits 10 hs) number (sym some) in
    rw (p.digits, p.last_half, all.0, allowed, used) refl

pub packed_whole : (padded signed : Bool) (field fs : List ℕ) (byte number : ℕ) → field ≡ fs ++ byte ∷ [] → Some number ≡ number_of (halves fs ++ high byte ∷ [])
    → is_sign signed (low byte) ≡ true → (padded && not (nat_eq (get_or (halves field) 0 0) 0)) ≡ false → Good (length field) (with_sign (low byte) number) ≡ packed_field padded signed field
unfolding packed_field number_of
packed_whole padded signed field fs byte number is some allowed free =
    let p = parts_of field fs byte is in
    let hs = halves fs ++ high byte ∷ [] in
    let all = some_if (list_all is_digit hs) (number_from_digits 10 hs) number (sym some) in
    rw (p.digits, p.last_half, all.0, allowed, free, all.1) refl

-- digits in their zones

pub zoned_stop : (bytes : List ℕ) (k : ℕ) → k < length bytes → None ≡ zoned_digit_of (get_or bytes k 0) → None ≡ zoned_number_of bytes
unfolding zoned_number_of
zoned_stop bytes k lt none =
    let no = none_if (is_zoned (get_or bytes k 0)) (low (get_or bytes k 0)) none in
    rw (list_all_at is_zoned bytes k 0 lt no) refl

pub record ZonedDigits (bytes : List ℕ) (k number : ℕ) : Type 0 where
  pub zoned : list_all is_zoned (take k bytes) ≡ true
  pub value : number ≡ number_from_digits 10 (map low (take k bytes))

pub zoned_more : (bytes : List ℕ) (k number digit : ℕ) → k < length bytes → Some digit ≡ zoned_digit_of (get_or bytes k 0) → ZonedDigits bytes k number → ZonedDigits bytes (k + 1) (number * 10 + digit)
zoned_more bytes k number digit lt some read =
    let byte = get_or bytes k 0 in
    let is = some_if (is_zoned byte) (low byte) digit (sym some) in
    record {
      zoned = list_all_more is_zoned bytes k 0 lt ∙ and_from (list_all is_zoned (take k bytes)) (is_zoned byte) read.zoned is.0;
      value = rw (map_more low bytes k 0 lt, number_push 10 (map low (take k bytes)) (low byte), ← read.value, is.1) refl;
    }

pub zoned_small : (bytes : List ℕ) (k number m : ℕ) → k ≤ m → ZonedDigits bytes k number → number < 10 ^ m
zoned_small bytes k number m few read =
    rw read.value (number_small (map low (take k bytes)) m (digits_in_zones (take k bytes) read.zoned) (omega (arith, length-map (take k bytes) low, length-take k bytes)))

pub zoned_done : (bytes : List ℕ) (k number : ℕ) → length bytes ≤ k → ZonedDigits bytes k number → Some number ≡ zoned_number_of bytes
unfolding zoned_number_of
zoned_done bytes k number all read =
    let whole : take k bytes ≡ bytes = take_all k bytes all in
    let zoned : list_all is_zoned bytes ≡ true = ap (list_all is_zoned) (sym whole) ∙ read.zoned in
    let value : number ≡ number_from_digits 10 (map low bytes) = read.value ∙ ap (λ xs. number_from_digits 10 (map low xs)) whole in
    rw (zoned, value) refl

-- a whole zoned field

pub zoned_empty : (signed : Bool) (field : List ℕ) → length field ≡ 0 → Soft 0 cause.Invalid ≡ zoned_field signed field
unfolding zoned_field
zoned_empty true [] none = refl
zoned_empty false [] none = refl
zoned_empty signed (x ∷ xs) none = absurd (omega arith)

pub zoned_other_zone : (signed : Bool) (field fs : List ℕ) (byte : ℕ) → field ≡ fs ++ byte ∷ [] → None ≡ zoned_number_of fs → Soft (length field) cause.Invalid ≡ zoned_field signed field
unfolding zoned_field zoned_number_of
zoned_other_zone signed field fs byte is none =
    let no = none_if (list_all is_zoned fs) (number_from_digits 10 (map low fs)) none in
    let fronts : front field ≡ fs = ap front is ∙ front_push fs byte in
    rw (fronts, no) refl

pub zoned_other_digit : (signed : Bool) (field fs : List ℕ) (byte : ℕ) → field ≡ fs ++ byte ∷ [] → 10 ≤ low byte → Soft (length field) cause.Invalid ≡ zoned_field signed field
unfolding zoned_field
zoned_other_digit signed field fs byte is le =
    let lasts : last field ≡ byte = ap last is ∙ last_push fs byte in
    let no : nat_lt (low byte) 10 ≡ false = le-ltb (low byte) 10 le in
    rw (lasts, no, and-false (list_all is_zoned (front field))) refl

pub zoned_other_sign : (signed : Bool) (field fs : List ℕ) (byte : ℕ) → field ≡ fs ++ byte ∷ [] → is_sign signed (high byte) ≡ false → Soft (length field) cause.Invalid ≡ zoned_field signed field
unfolding zoned_field
zoned_other_sign signed field fs byte is other =
    let lasts : last field ≡ byte = ap last is ∙ last_push fs byte in
    rw (lasts, other, and-false (is_digit (low byte)), and-false (list_all is_zoned (front field))) refl

pub zoned_whole : (signed : Bool) (field fs : List ℕ) (byte number : ℕ) → field ≡ fs ++ byte ∷ [] → Some number ≡ zoned_number_of fs → low byte < 10 → is_sign signed (high byte) ≡ true
    → Good (length field) (with_sign (high byte) (number * 10 + low byte)) ≡ zoned_field signed field
unfolding zoned_field zoned_number_of
zoned_whole signed field fs byte number is some lt allowed =
    let all = some_if (list_all is_zoned fs) (number_from_digits 10 (map low fs)) number (sym some) in
    let fronts : front field ≡ fs = ap front is ∙ front_push fs byte in
    let lasts : last field ≡ byte = ap last is ∙ last_push fs byte in
    let digit : nat_lt (low byte) 10 ≡ true = lt-ltb (low byte) 10 lt in
    let value : number_from_digits 10 (map low field) ≡ number_from_digits 10 (map low fs) * 10 + low byte = ap (λ xs. number_from_digits 10 (map low xs)) is ∙ ap (number_from_digits 10) (map_push low fs byte) ∙ number_push 10 (map low fs) (low byte) in
    rw (fronts, lasts, all.0, digit, allowed, value, all.1) refl

-- a field in front of bytes

pub packed_none : (digits : ℤ) (signed : Bool) (bytes : List ℕ) → None ≡ digit_count digits → Hard cause.BadParam ≡ packed_reading digits signed bytes
unfolding packed_reading
packed_none digits signed bytes none = rw (← none) refl

pub packed_short : (digits : ℤ) (signed : Bool) (bytes : List ℕ) (count : ℕ) → Some count ≡ digit_count digits → length bytes < count / 2 + 1 → Hard cause.Width ≡ packed_reading digits signed bytes
unfolding packed_reading packed_in_front
packed_short digits signed bytes count some lt = let short : nat_lt (length bytes) (count / 2 + 1) ≡ true = lt-ltb (length bytes) (count / 2 + 1) lt in rw (← some, short) refl

pub packed_there : (digits : ℤ) (signed : Bool) (bytes field : List ℕ) (count : ℕ) → Some count ≡ digit_count digits → count / 2 + 1 ≤ length bytes → field ≡ take (count / 2 + 1) bytes
    → packed_field (nat_eq (count % 2) 0) signed field ≡ packed_reading digits signed bytes
unfolding packed_reading packed_in_front
packed_there digits signed bytes field count some le is =
    let long : nat_lt (length bytes) (count / 2 + 1) ≡ false = le-ltb (length bytes) (count / 2 + 1) le in
    rw (← some, long, is) refl

pub zoned_none : (digits : ℤ) (signed : Bool) (bytes : List ℕ) → None ≡ digit_count digits → Hard cause.BadParam ≡ zoned_reading digits signed bytes
unfolding zoned_reading
zoned_none digits signed bytes none = rw (← none) refl

pub zoned_short : (digits : ℤ) (signed : Bool) (bytes : List ℕ) (count : ℕ) → Some count ≡ digit_count digits → length bytes < count → Hard cause.Width ≡ zoned_reading digits signed bytes
unfolding zoned_reading zoned_in_front
zoned_short digits signed bytes count some lt = let short : nat_lt (length bytes) count ≡ true = lt-ltb (length bytes) count lt in rw (← some, short) refl

pub zoned_there : (digits : ℤ) (signed : Bool) (bytes field : List ℕ) (count : ℕ) → Some count ≡ digit_count digits → count ≤ length bytes → field ≡ take count bytes → zoned_field signed field ≡ zoned_reading digits signed bytes
unfolding zoned_reading zoned_in_front
zoned_there digits signed bytes field count some le is =
    let long : nat_lt (length bytes) count ≡ false = le-ltb (length bytes) count le in
    rw (← some, long, is) refl
