-- A text of an integer, whatever its sign and zeros, is read whole; and what is read is such a text.
use Rattle.std.proofs.Common.{◌≡◌, ℕ, zero, suc, ◌+◌, ◌<◌, ◌≤◌, Bool, true, false, ℤ, List, [], ◌∷◌, ◌++◌, length, take, drop, replicate, refl, sym, arith, nat_eq, cond, length-append, length-drop}
use Rattle.std.specs.Char.{is_ascii_digit}
use Rattle.std.specs.List.{prefix_len, take_while}
use Rattle.std.proofs.Math.Seq.{take-add, drop-append_seam}
use Rattle.std.proofs.lemmas.List.{take-append-drop}
use Rattle.std.proofs.lemmas.List.Folds.{length-prefix_len}
use Rattle.std.proofs.lemmas.List.Sums.{prefix_len-le-length}
use Rattle.std.proofs.lemmas.Bool.{ne_eqb, eqb-true, eqb-false, leb-true, and_parts}
use Rattle.std.proofs.Math.Bool.{and-false}
use Rattle.pads_value.specs.declared.reading.Read.{Read}
use Rattle.pads_value.specs.declared.reading.Read.TheVariants.{Good, Soft, Hard}
use Rattle.pads_value.specs.declared.cause.Cause.{Cause}
use Rattle.pads_value.specs.declared.cause.Cause.TheVariants as cause
use Rattle.pads_value.proofs.ReadLemmas.{good_in_range}
use Rattle.pads_int.specs.declared.kind.Kind.{Kind}
use Rattle.pads_int.specs.Kinds.{is_signed, in_range}
use Rattle.pads_code.specs.Numerals.{is_numeral, number}
use Rattle.pads_int.specs.Readings.{plus, minus, blank, sign_size, is_negative, signed_number, ranged, run_reading, field_reading}
use Rattle.pads_int.specs.Texts.{IsSign, IsIntegerText}
use Rattle.pads_code.proofs.NumeralLemmas.{numeral_parts, numeral_from, whole_run, run_passes}

digit_from : (d : ℕ) → is_ascii_digit d ≡ true → 48 ≤ d
digit_from d h = leb-true 48 d (and_parts _ _ h).0

-- the sign in front of a numeral is told by its form
pub record Signed (kind : Kind) (negative : Bool) (size : ℕ) (points : List ℕ) : Type 0 where
  pub takes : sign_size kind points ≡ size
  pub tells : is_negative kind points ≡ negative

unsigned : (kind : Kind) (d : ℕ) (ds : List ℕ) → 48 ≤ d → Signed kind false 0 (d ∷ ds)
unsigned kind d ds h =
    let no_plus : nat_eq d plus ≡ false = ne_eqb d plus (λ e. omega arith) in
    let no_minus : nat_eq d minus ≡ false = ne_eqb d minus (λ e. omega arith) in
    record {
      takes = rw (no_plus, no_minus, and-false (is_signed kind)) refl;
      tells = rw (no_minus, and-false (is_signed kind)) refl;
    }

pub sign_told : (kind : Kind) (negative : Bool) (sign digits : List ℕ) → IsSign kind negative sign → is_numeral digits ≡ true → Signed kind negative (length sign) (sign ++ digits)
sign_told kind _ _ [] IsSign.none h = cc
sign_told kind _ _ (d ∷ ds) IsSign.none h = unsigned kind d ds (digit_from d (and_parts _ _ (numeral_parts (d ∷ ds) h).1).0)
sign_told kind _ _ digits IsSign.plus_sign h = record { takes = refl; tells = and-false (is_signed kind) }
sign_told kind _ _ digits (IsSign.minus_sign allowed) h = record { takes = rw allowed refl; tells = rw allowed refl }

behind_sign : (sign digits : List ℕ) (n : ℕ) → n ≡ length sign → drop n (sign ++ digits) ≡ digits
behind_sign sign digits n e = rw e (drop-append_seam sign digits)

-- read as far as its digits go, a text of an integer is read whole
pub text_is_read : (kind : Kind) (v : ℤ) (points : List ℕ) → IsIntegerText kind v points → run_reading kind points ≡ Good (length points) v
unfolding run_reading
text_is_read kind v points t =
    let told = sign_told kind t.negative t.sign t.digits t.allowed t.numeral in
    let parts = numeral_parts t.digits t.numeral in
    let some : nat_eq (length t.digits) 0 ≡ false = ne_eqb (length t.digits) 0 (λ e. omega arith) in
    let within : in_range kind (signed_number t.negative (number t.digits)) ≡ true = rw t.value at t.ranged in
    rw (t.parts, told.takes, told.tells, behind_sign t.sign t.digits (length t.sign) refl, whole_run is_ascii_digit t.digits parts.1, some, within, length-append t.sign t.digits, ← t.value) refl

-- what a reading that is good says of its parts
pub good_not_hard : (b : Bool) (why : Cause) (r : Read ℤ) (n : ℕ) (v : ℤ) → cond b (Hard why) r ≡ Good n v → (b ≡ false) × (r ≡ Good n v)
good_not_hard true why r n v e = cc
good_not_hard false why r n v e = (refl, e)

pub good_not_soft : (b : Bool) (r : Read ℤ) (size n : ℕ) (v : ℤ) → cond b r (Soft size cause.Invalid) ≡ Good n v → (b ≡ true) × (r ≡ Good n v)
good_not_soft true r size n v e = (refl, e)
good_not_soft false r size n v e = cc

pub ranged_good : (kind : Kind) (size : ℕ) (w : ℤ) (n : ℕ) (v : ℤ) → ranged kind size w ≡ Good n v → (in_range kind w ≡ true) × (n ≡ size) × (v ≡ w)
ranged_good kind size w n v e = good_in_range (in_range kind w) size w n v e

-- what the reading takes as a sign is one
record SignInFront (kind : Kind) (points : List ℕ) : Type 0 where
  within : sign_size kind points ≤ length points
  allowed : IsSign kind (is_negative kind points) (take (sign_size kind points) points)

sign_by_tests : (kind : Kind) (p : ℕ) (ps : List ℕ) (is_plus is_minus signed : Bool) → nat_eq p plus ≡ is_plus → nat_eq p minus ≡ is_minus → is_signed kind ≡ signed → SignInFront kind (p ∷ ps)
sign_by_tests kind p ps true true signed is_plus is_minus is_signed = absurd (omega (arith, eqb-true _ _ is_plus, eqb-true _ _ is_minus))
sign_by_tests kind p ps true false signed is_plus is_minus is_signed =
    record {
      within = rw is_plus (omega arith);
      allowed = rw (is_plus, is_minus, and-false _, eqb-true _ _ is_plus) IsSign.plus_sign;
    }
sign_by_tests kind p ps false true true is_plus is_minus is_signed =
    record {
      within = rw (is_plus, is_minus, is_signed) (omega arith);
      allowed = rw (is_plus, is_minus, is_signed, eqb-true _ _ is_minus) (IsSign.minus_sign is_signed);
    }
sign_by_tests kind p ps false true false is_plus is_minus is_signed =
    record {
      within = rw (is_plus, is_minus, is_signed) (omega arith);
      allowed = rw (is_plus, is_minus, is_signed) IsSign.none;
    }
sign_by_tests kind p ps false false signed is_plus is_minus is_signed =
    record {
      within = rw (is_plus, is_minus, and-false _) (omega arith);
      allowed = rw (is_plus, is_minus, and-false _) IsSign.none;
    }

sign_in_front : (kind : Kind) (points : List ℕ) → SignInFront kind points
sign_in_front kind [] = record { within = omega arith; allowed = IsSign.none }
sign_in_front kind (p ∷ ps) = sign_by_tests kind p ps (nat_eq p plus) (nat_eq p minus) (is_signed kind) refl refl refl

pub record ReadsText (kind : Kind) (v : ℤ) (n : ℕ) (points : List ℕ) : Type 0 where
  pub within : n ≤ length points
  pub text : IsIntegerText kind v (take n points)

-- what is read as far as its digits go is a text of the integer
pub read_is_text : (kind : Kind) (points : List ℕ) (n : ℕ) (v : ℤ) → run_reading kind points ≡ Good n v → ReadsText kind v n points
unfolding run_reading
read_is_text kind points n v e =
    let size = sign_size kind points in
    let rest = drop size points in
    let digits = take_while is_ascii_digit rest in
    let w = signed_number (is_negative kind points) (number digits) in
    let some = good_not_hard (nat_eq (length digits) 0) cause.Invalid (ranged kind (size + length digits) w) n v e in
    let good = ranged_good kind (size + length digits) w n v some.1 in
    let front = sign_in_front kind points in
    let run = length-prefix_len is_ascii_digit rest in
    let short = prefix_len-le-length is_ascii_digit rest in
    let more : 0 < length digits = grind (arith, eqb-false _ _ some.0) in
    record {
      within = omega (arith, front.within, length-drop size points);
      text = record {
        negative = is_negative kind points;
        sign = take size points;
        digits = digits;
        parts = rw (good.1, take-add size (length digits) points, run) refl;
        allowed = front.allowed;
        numeral = numeral_from digits more (run_passes is_ascii_digit rest);
        value = good.2;
        ranged = rw good.2 good.0;
      };
    }

-- the blanks in front of a field
abbrev is_blank : ℕ → Bool
is_blank p = nat_eq p blank

blank_front : (xs : List ℕ) → take (prefix_len is_blank xs) xs ≡ replicate (prefix_len is_blank xs) blank
blank_front [] = refl
blank_front (x ∷ xs) =
    let more : 1 + prefix_len is_blank xs ≡ suc (prefix_len is_blank xs) = omega arith in
    elim (is_blank x) as (λ b. is_blank x ≡ b → take (prefix_len is_blank (x ∷ xs)) (x ∷ xs) ≡ replicate (prefix_len is_blank (x ∷ xs)) blank) [
      | true ↦ λ e. rw (e, more, blank_front xs, eqb-true x blank e) refl
      | false ↦ λ e. rw e refl
    ] refl

blanks_run : (n : ℕ) (text : List ℕ) → prefix_len is_blank text ≡ 0 → prefix_len is_blank (replicate n blank ++ text) ≡ n
blanks_run zero text h = h
blanks_run (suc n) text h = rw (blanks_run n text h) (omega arith)

behind_blanks : (n : ℕ) (text : List ℕ) → drop n (replicate n blank ++ text) ≡ text
behind_blanks zero text = refl
behind_blanks (suc n) text = behind_blanks n text

digit_not_blank : (kind : Kind) (d : ℕ) (ds : List ℕ) → is_numeral (d ∷ ds) ≡ true → prefix_len is_blank (d ∷ ds) ≡ 0
digit_not_blank kind d ds h =
    let low = digit_from d (and_parts _ _ (numeral_parts (d ∷ ds) h).1).0 in
    rw (ne_eqb d blank (λ e. omega arith)) refl

no_blank_front : (kind : Kind) (negative : Bool) (sign digits : List ℕ) → IsSign kind negative sign → is_numeral digits ≡ true → prefix_len is_blank (sign ++ digits) ≡ 0
no_blank_front kind _ _ [] IsSign.none h = cc
no_blank_front kind _ _ (d ∷ ds) IsSign.none h = digit_not_blank kind d ds h
no_blank_front kind _ _ digits IsSign.plus_sign h = refl
no_blank_front kind _ _ digits (IsSign.minus_sign allowed) h = refl

-- a field of blanks and a text of an integer
pub record IsFieldText (kind : Kind) (v : ℤ) (field : List ℕ) : Type 0 where
  pub blanks : ℕ
  pub text : List ℕ
  pub parts : field ≡ replicate blanks blank ++ text
  pub integer : IsIntegerText kind v text

pub field_is_read : (kind : Kind) (v : ℤ) (field : List ℕ) → IsFieldText kind v field → field_reading kind field ≡ Good (length field) v
unfolding field_reading
field_is_read kind v field f =
    let t = f.integer in
    let told = sign_told kind t.negative t.sign t.digits t.allowed t.numeral in
    let no_blank : prefix_len is_blank f.text ≡ 0 = rw t.parts (no_blank_front kind t.negative t.sign t.digits t.allowed t.numeral) in
    let skipped : drop (prefix_len is_blank field) field ≡ t.sign ++ t.digits = rw (f.parts, blanks_run f.blanks f.text no_blank, behind_blanks f.blanks f.text) t.parts in
    let within : in_range kind (signed_number t.negative (number t.digits)) ≡ true = rw t.value at t.ranged in
    rw (skipped, told.takes, told.tells, behind_sign t.sign t.digits (length t.sign) refl, t.numeral, within, ← t.value) refl

pub read_is_field : (kind : Kind) (field : List ℕ) (n : ℕ) (v : ℤ) → field_reading kind field ≡ Good n v → (n ≡ length field) × IsFieldText kind v field
unfolding field_reading
read_is_field kind field n v e =
    let text = drop (prefix_len is_blank field) field in
    let size = sign_size kind text in
    let digits = drop size text in
    let w = signed_number (is_negative kind text) (number digits) in
    let whole = good_not_soft (is_numeral digits) (ranged kind (length field) w) (length field) n v e in
    let good = ranged_good kind (length field) w n v whole.1 in
    let front = sign_in_front kind text in (
      good.1,
      record {
        blanks = prefix_len is_blank field;
        text = text;
        parts = rw (← blank_front field) (sym (take-append-drop (prefix_len is_blank field) field));
        integer = record {
          negative = is_negative kind text;
          sign = take size text;
          digits = digits;
          parts = sym (take-append-drop size text);
          allowed = front.allowed;
          numeral = whole.0;
          value = good.2;
          ranged = rw good.2 good.0;
        };
      },
    )
