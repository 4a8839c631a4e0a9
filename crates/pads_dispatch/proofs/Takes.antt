-- A base type takes no more bytes than there are.
use Rattle.std.proofs.Common.{not, Option, Some, None, ◌≡◌, ℕ, ◌+◌, ◌≤◌, Bool, true, false, ◌&&◌, if◌then◌else◌, ℤ, pos, negsuc, nat_lt, nat_eq, List, [], ◌∷◌, length, map, slice_index, take, drop, refl, arith, length-drop, length-take}
use Rattle.std.specs.Char.{is_ascii_digit}
use Rattle.std.specs.Int.Digits.{number_from_digits}
use Rattle.std.specs.List.{list_all, prefix_len, take_while, position_or_len}
use Rattle.std.specs.Option.{option_map_or}
use Rattle.std.proofs.lemmas.Grind.{common_steps}
use Rattle.std.proofs.lemmas.Bool.{ltb-false}
use Rattle.std.proofs.lemmas.List.{length-map}
use Rattle.std.proofs.lemmas.List.Folds.{length-prefix_len}
use Rattle.std.proofs.lemmas.List.Sums.{prefix_len-le-length}
use Rattle.pads_value.specs.declared.value.Val.{Val}
use Rattle.pads_value.specs.declared.value.Val.TheVariants as val
use Rattle.pads_value.specs.declared.reading.Read.{Read}
use Rattle.pads_value.specs.declared.reading.Read.TheVariants.{Good, Soft, Hard}
use Rattle.pads_value.specs.declared.cause.Cause.{Cause}
use Rattle.pads_value.specs.declared.cause.Cause.TheVariants as cause
use Rattle.pads_code.specs.declared.Coding.{Coding}
use Rattle.pads_code.specs.CodePage.{point, points_of}
use Rattle.pads_code.specs.Numerals.{is_numeral, number}
use Rattle.pads_code.proofs.TextLemmas.{length-points}
use Rattle.pads_int.specs.declared.kind.Kind.{Kind}
use Rattle.pads_int.specs.Kinds.{in_range}
use Rattle.pads_int.specs.Readings.{sign_size, is_negative, signed_number, ranged, run_reading, field_reading, int_reading, int_fw_reading}
use Rattle.pads_bases.specs.declared.binary.Order.{Order}
use Rattle.pads_bases.specs.declared.binary.Range.{Range}
use Rattle.pads_bases.specs.declared.enums.Label.{Label}
use Rattle.pads_bases.specs.Addresses.{Numbered, address as address_of, address_read, ip_reading}
use Rattle.pads_bases.specs.Binaries.{is_size, has_number, bin_number, ranged as binary_or_range, bin_reading}
use Rattle.pads_bases.specs.Classes.{is_class, has_point, class_reading}
use Rattle.pads_bases.specs.Enums.{choice, choice_read, enum_reading}
use Rattle.pads_bases.proofs.ChoiceLaws.{enum_within}
use Rattle.pads_bases.specs.Strings.{until_reading, fixed_reading, char_reading}
use Rattle.pads_decimal.specs.Digits.{digit_count}
use Rattle.pads_decimal.specs.HalfBytes.{high, low, is_digit, halves, last, front}
use Rattle.pads_decimal.specs.Packed.{packed_width, is_padded, packed_field, packed_in_front, packed_reading}
use Rattle.pads_decimal.specs.Signs.{is_sign, with_sign}
use Rattle.pads_decimal.specs.Zoned.{is_zoned, zoned_field, zoned_in_front, zoned_reading}
use Rattle.pads_dispatch.specs.declared.base.Arg.{Arg}
use Rattle.pads_dispatch.specs.declared.base.Base.{Base}
use Rattle.pads_dispatch.specs.Applied.{Applied, applied, integer, field, binary, until, fixed, class, char, address, labelled, packed, zoned}
use Rattle.pads_dispatch.specs.Kinds.{range_of}
use Rattle.pads_dispatch.specs.Readings.{as_value, reading_of, reading_or_bad_param, base_reading}
use Rattle.pads_dispatch.specs.Sizes.{taken}

module _ {X : Type 0} where
  either-takes : (n : ℕ) (b : Bool) (x y : Read X) → (b ≡ true → taken x ≤ n) → (b ≡ false → taken y ≤ n) → taken (if b then x else y) ≤ n
  either-takes n true x y holds fails = holds refl
  either-takes n false x y holds fails = fails refl

  good-takes : (r : Read X) (n : ℕ) → ((size : ℕ) (x : X) → r ≡ Good size x → size ≤ n) → ((size : ℕ) (c : Cause) → r ≡ Soft size c → ⊥) → taken r ≤ n
  good-takes (Good size x) n good soft = good size x refl
  good-takes (Soft size c) n good soft = absurd (soft size c refl)
  good-takes (Hard c) n good soft = omega arith

  abbrev Same : Read X → Read X → Type 0
  Same x y = x ≡ y

  good_not_soft : (m : ℕ) (x : X) (size : ℕ) (c : Cause) → Good m x ≡ Soft size c → ⊥
  good_not_soft m x size c e = grind (arith, e)

  hard_not_soft : (why : Cause) (size : ℕ) (c : Cause) → Same (Hard why) (Soft size c) → ⊥
  hard_not_soft why size c e = grind (arith, e)

  value-takes : (value : X → Val) (r : Read X) (n : ℕ) → taken r ≤ n → taken (as_value value r) ≤ n
  value-takes value (Good size v) n h = h
  value-takes value (Soft size c) n h = h
  value-takes value (Hard c) n h = h

ranged-takes : (kind : Kind) (size : ℕ) (v : ℤ) → taken (ranged kind size v) ≤ size
ranged-takes kind size v = either-takes size (in_range kind v) (Good size v) (Soft size cause.Range) (λ _. omega arith) (λ _. omega arith)

sign-fits : (kind : Kind) (points : List ℕ) → sign_size kind points ≤ length points
sign-fits kind [] = omega arith
sign-fits kind (p ∷ points) = grind (arith, common_steps)

run-takes : (kind : Kind) (points : List ℕ) → taken (run_reading kind points) ≤ length points
unfolding run_reading
run-takes kind points =
    let sign : ℕ = sign_size kind points in
    let digits : List ℕ = take_while is_ascii_digit (drop sign points) in
    let v : ℤ = signed_number (is_negative kind points) (number digits) in
    let run : length digits ≤ length (drop sign points) =
    omega (arith, length-prefix_len is_ascii_digit (drop sign points), prefix_len-le-length is_ascii_digit (drop sign points)) in
    either-takes (length points) (nat_eq (length digits) 0) (Hard cause.Invalid) (ranged kind (sign + length digits) v)
    (λ _. omega arith)
    (λ _. omega (arith, run, sign-fits kind points, length-drop sign points, ranged-takes kind (sign + length digits) v))

field-takes : (kind : Kind) (points : List ℕ) → taken (field_reading kind points) ≤ length points
unfolding field_reading
field-takes kind points =
    let text : List ℕ = drop (prefix_len (λ p. nat_eq p 32) points) points in
    let digits : List ℕ = drop (sign_size kind text) text in
    let v : ℤ = signed_number (is_negative kind text) (number digits) in
    either-takes (length points) (is_numeral digits) (ranged kind (length points) v) (Soft (length points) cause.Invalid)
    (λ _. ranged-takes kind (length points) v) (λ _. omega arith)

int-takes : (kind : Kind) (coding : Coding) (bytes : List ℕ) → taken (int_reading kind coding bytes) ≤ length bytes
unfolding int_reading
int-takes kind coding bytes = omega (arith, run-takes kind (points_of coding bytes), length-map bytes (point coding))

int_fw-takes : (kind : Kind) (coding : Coding) (width : ℤ) (bytes : List ℕ) → taken (int_fw_reading kind coding width bytes) ≤ length bytes
unfolding int_fw_reading
int_fw-takes kind coding (negsuc w) bytes = omega arith
int_fw-takes kind coding (pos width) bytes =
    let points : List ℕ = points_of coding (take width bytes) in
    let enough : Read ℤ = field_reading kind points in
    either-takes (length bytes) (nat_eq width 0) (Hard cause.BadParam) (if nat_lt (length bytes) width then Hard cause.Width else enough)
    (λ _. omega arith)
    (λ _. either-takes (length bytes) (nat_lt (length bytes) width) (Hard cause.Width) enough (λ _. omega arith)
    (λ _. omega (arith, field-takes kind points, length-map (take width bytes) (point coding), length-take width bytes)))

bin-takes : (range : Range) (order : Order) (size : ℤ) (bytes : List ℕ) → taken (bin_reading range order size bytes) ≤ length bytes
unfolding bin_reading
bin-takes range order (negsuc s) bytes = omega arith
bin-takes range order (pos size) bytes =
    let v : ℤ = bin_number range order (take size bytes) in
    let whole : Read ℤ = binary_or_range range size v in
    either-takes (length bytes) (not (is_size size)) (Hard cause.BadParam) (if nat_lt (length bytes) size then Hard cause.Width else whole)
    (λ _. omega arith)
    (λ _. either-takes (length bytes) (nat_lt (length bytes) size) (Hard cause.Width) whole (λ _. omega arith)
    (λ enough. either-takes (length bytes) (has_number range v) (Good size v) (Soft size cause.Range)
    (λ _. omega (arith, ltb-false _ _ enough)) (λ _. omega (arith, ltb-false _ _ enough))))

until-takes : (coding : Coding) (stop : Option ℕ) (bytes : List ℕ) → taken (until_reading coding stop bytes) ≤ length bytes
unfolding until_reading
until-takes coding None bytes = omega arith
until-takes coding (Some stop) bytes =
    omega (arith, length-points coding bytes, length-take (position_or_len (λ p. nat_eq p stop) (points_of coding bytes)) (points_of coding bytes))

fixed-takes : (coding : Coding) (width : ℤ) (bytes : List ℕ) → taken (fixed_reading coding width bytes) ≤ length bytes
unfolding fixed_reading
fixed-takes coding (negsuc w) bytes = omega arith
fixed-takes coding (pos width) bytes =
    either-takes (length bytes) (nat_lt (length bytes) width) (Hard cause.Width) (Good width (points_of coding (take width bytes)))
    (λ _. omega arith) (λ enough. omega (arith, ltb-false _ _ enough))

class-takes : (coding : Coding) (text bytes : List ℕ) → taken (class_reading coding text bytes) ≤ length bytes
unfolding class_reading
class-takes coding text bytes =
    let run : List ℕ = take_while (has_point text) (points_of coding bytes) in
    let short : length run ≤ length bytes =
    omega (arith, length-prefix_len (has_point text) (points_of coding bytes), prefix_len-le-length (has_point text) (points_of coding bytes), length-points coding bytes) in
    either-takes (length bytes) (not (is_class text)) (Hard cause.BadParam) (if nat_eq (length run) 0 then Hard cause.Invalid else Good (length run) run)
    (λ _. omega arith)
    (λ _. either-takes (length bytes) (nat_eq (length run) 0) (Hard cause.Invalid) (Good (length run) run) (λ _. omega arith) (λ _. short))

char-takes : (coding : Coding) (bytes : List ℕ) → taken (char_reading coding bytes) ≤ length bytes
unfolding char_reading
char-takes coding [] = omega arith
char-takes coding (b ∷ bytes) = omega arith

found-takes : (size : ℕ) (found : Option Numbered) → taken (address_read size found) ≤ size
found-takes size None = omega arith
found-takes size (Some found) = omega arith

ip-takes : (coding : Coding) (bytes : List ℕ) → taken (ip_reading coding bytes) ≤ length bytes
unfolding ip_reading
ip-takes coding bytes = found-takes (length bytes) (address_of (points_of coding bytes))

option-cases : {A : Type 0} (o : Option A) (P : Option A → Type 0) → P None → ((x : A) → P (Some x)) → P o
option-cases None P none some = none
option-cases (Some x) P none some = some x

choice-not-soft : (labels : List Label) (points : List ℕ) (size : ℕ) (c : Cause) → choice_read (choice 0 labels points) ≡ Soft size c → ⊥
choice-not-soft labels points size c =
    option-cases (choice 0 labels points) (λ o. choice_read o ≡ Soft size c → ⊥) (hard_not_soft cause.Enum size c) (λ found. good_not_soft found.size found.number size c)

never-soft : (coding : Coding) (labels : List Label) (bytes : List ℕ) (size : ℕ) (c : Cause) → enum_reading coding labels bytes ≡ Soft size c → ⊥
unfolding enum_reading
never-soft coding labels bytes size c e = choice-not-soft labels (points_of coding bytes) size c e

enum-takes : (coding : Coding) (labels : List Label) (bytes : List ℕ) → taken (enum_reading coding labels bytes) ≤ length bytes
enum-takes coding labels bytes = good-takes (enum_reading coding labels bytes) (length bytes) (enum_within coding labels bytes) (never-soft coding labels bytes)

-- a field is no longer than the bytes that it is taken from
padded-takes : (padded signed : Bool) (whole : List ℕ) → taken (packed_field padded signed whole) ≤ length whole
unfolding packed_field
padded-takes padded signed whole =
    let written : List ℕ = front (halves whole) in
    let sign : ℕ = last (halves whole) in
    let good : Read ℤ = Good (length whole) (with_sign sign (number_from_digits 10 written)) in
    let used : Bool = padded && not (nat_eq (slice_index (halves whole) 0) 0) in
    either-takes (length whole) (not (list_all is_digit written && is_sign signed sign)) (Soft (length whole) cause.Invalid) (if used then Soft (length whole) cause.Range else good)
    (λ _. omega arith)
    (λ _. either-takes (length whole) used (Soft (length whole) cause.Range) good (λ _. omega arith) (λ _. omega arith))

packed-front-takes : (signed : Bool) (bytes : List ℕ) (count : ℕ) → taken (packed_in_front signed bytes count) ≤ length bytes
unfolding packed_in_front
packed-front-takes signed bytes count =
    let width : ℕ = packed_width count in
    either-takes (length bytes) (nat_lt (length bytes) width) (Hard cause.Width) (packed_field (is_padded count) signed (take width bytes))
    (λ _. omega arith)
    (λ _. omega (arith, padded-takes (is_padded count) signed (take width bytes), length-take width bytes))

packed-takes : (digits : ℤ) (signed : Bool) (bytes : List ℕ) → taken (packed_reading digits signed bytes) ≤ length bytes
unfolding packed_reading
packed-takes digits signed bytes =
    option-cases (digit_count digits) (λ o. taken (option_map_or (packed_in_front signed bytes) o (Hard cause.BadParam)) ≤ length bytes) (omega arith) (packed-front-takes signed bytes)

zones-take : (signed : Bool) (whole : List ℕ) → taken (zoned_field signed whole) ≤ length whole
unfolding zoned_field
zones-take signed whole =
    let sign : ℕ = high (last whole) in
    let ends : Bool = is_digit (low (last whole)) && is_sign signed sign in
    either-takes (length whole) (list_all is_zoned (front whole) && ends) (Good (length whole) (with_sign sign (number_from_digits 10 (map low whole)))) (Soft (length whole) cause.Invalid)
    (λ _. omega arith) (λ _. omega arith)

zoned-front-takes : (signed : Bool) (bytes : List ℕ) (count : ℕ) → taken (zoned_in_front signed bytes count) ≤ length bytes
unfolding zoned_in_front
zoned-front-takes signed bytes count =
    either-takes (length bytes) (nat_lt (length bytes) count) (Hard cause.Width) (zoned_field signed (take count bytes))
    (λ _. omega arith) (λ _. omega (arith, zones-take signed (take count bytes), length-take count bytes))

zoned-takes : (digits : ℤ) (signed : Bool) (bytes : List ℕ) → taken (zoned_reading digits signed bytes) ≤ length bytes
unfolding zoned_reading
zoned-takes digits signed bytes =
    option-cases (digit_count digits) (λ o. taken (option_map_or (zoned_in_front signed bytes) o (Hard cause.BadParam)) ≤ length bytes) (omega arith) (zoned-front-takes signed bytes)

reading-takes : (whole : Applied) (bytes : List ℕ) → taken (reading_of whole bytes) ≤ length bytes
reading-takes (integer kind coding) bytes = value-takes val.Num (int_reading kind coding bytes) (length bytes) (int-takes kind coding bytes)
reading-takes (field kind coding width) bytes = value-takes val.Num (int_fw_reading kind coding width bytes) (length bytes) (int_fw-takes kind coding width bytes)
reading-takes (binary kind order size) bytes = value-takes val.Num (bin_reading (range_of kind) order size bytes) (length bytes) (bin-takes (range_of kind) order size bytes)
reading-takes (until coding stop) bytes = value-takes val.Text (until_reading coding stop bytes) (length bytes) (until-takes coding stop bytes)
reading-takes (fixed coding width) bytes = value-takes val.Text (fixed_reading coding width bytes) (length bytes) (fixed-takes coding width bytes)
reading-takes (class coding text) bytes = value-takes val.Text (class_reading coding text bytes) (length bytes) (class-takes coding text bytes)
reading-takes (char coding) bytes = value-takes val.Text (char_reading coding bytes) (length bytes) (char-takes coding bytes)
reading-takes (address coding) bytes = value-takes val.Num (ip_reading coding bytes) (length bytes) (ip-takes coding bytes)
reading-takes (labelled coding labels) bytes = value-takes val.Enum (enum_reading coding labels bytes) (length bytes) (enum-takes coding labels bytes)
reading-takes (packed signed digits) bytes = value-takes val.Num (packed_reading digits signed bytes) (length bytes) (packed-takes digits signed bytes)
reading-takes (zoned signed digits) bytes = value-takes val.Num (zoned_reading digits signed bytes) (length bytes) (zoned-takes digits signed bytes)

optional-takes : (whole : Option Applied) (bytes : List ℕ) → taken (reading_or_bad_param whole bytes) ≤ length bytes
optional-takes None bytes = omega arith
optional-takes (Some whole) bytes = reading-takes whole bytes

-- whatever the base and its arguments are
pub base-takes : (base : Base) (args : List Arg) (bytes : List ℕ) → taken (base_reading base args bytes) ≤ length bytes
unfolding base_reading
base-takes base args bytes = optional-takes (applied base args) bytes

pub ruleset takes = (base-takes)
