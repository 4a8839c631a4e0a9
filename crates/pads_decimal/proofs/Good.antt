-- What a good reading, and a spelling that is there, say of the number of digits and of the sign.
use Rattle.std.proofs.Common.{◌≡◌, ℕ, zero, suc, ◌^◌, ◌<◌, Bool, true, false, ◌&&◌, ◌||◌, cond, not, nat_eq, nat_lt, int_lt, ℤ, pos, negsuc, neg_ℤ, List, Option, Some, None, refl, arith}
use Rattle.std.specs.Int.RustNames.{unsigned_abs}
use Rattle.std.specs.Option.{option_map_or, option_and_then}
use Rattle.std.proofs.lemmas.Bool.{and_parts, and_from, or_right, ltb-true, lt-ltb, le-ltb, eqb-true}
use Rattle.pads_value.specs.declared.cause.Cause.{Cause}
use Rattle.pads_value.specs.declared.reading.Read.{Read}
use Rattle.pads_value.specs.declared.reading.Read.TheVariants.{Good, Soft, Hard}
use Rattle.pads_decimal.specs.Digits.{fits}
use Rattle.pads_decimal.specs.Signs.{minus, is_sign, with_sign, sign_of}

pub not_hard : (b : Bool) (why : Cause) (r : Read ℤ) (n : ℕ) (v : ℤ) → cond b (Hard why) r ≡ Good n v → (b ≡ false) × (r ≡ Good n v)
not_hard true why r n v e = cc
not_hard false why r n v e = (refl, e)

pub not_soft : (b : Bool) (why : Cause) (size : ℕ) (r : Read ℤ) (n : ℕ) (v : ℤ) → cond b (Soft size why) r ≡ Good n v → (b ≡ false) × (r ≡ Good n v)
not_soft true why size r n v e = cc
not_soft false why size r n v e = (refl, e)

-- the number of digits is one that is allowed

pub record Counted (f : ℕ → Read ℤ) (o : Option ℕ) (n : ℕ) (v : ℤ) : Type 0 where
  pub count : ℕ
  pub counted : o ≡ Some count
  pub good : f count ≡ Good n v

pub counted_good : (f : ℕ → Read ℤ) (o : Option ℕ) (why : Cause) (n : ℕ) (v : ℤ) → option_map_or f o (Hard why) ≡ Good n v → Counted f o n v
counted_good f None why n v e = cc
counted_good f (Some count) why n v e = record { count = count; counted = refl; good = e }

pub record CountedSpelling (f : ℕ → Option (List ℕ)) (o : Option ℕ) (s : List ℕ) : Type 0 where
  pub count : ℕ
  pub counted : o ≡ Some count
  pub gives : f count ≡ Some s

pub counted_some : (f : ℕ → Option (List ℕ)) (o : Option ℕ) (s : List ℕ) → option_and_then f o ≡ Some s → CountedSpelling f o s
counted_some f None s e = cc
counted_some f (Some count) s e = record { count = count; counted = refl; gives = e }

-- the number behind a sign that is read fits

size_of_negated : (m : ℕ) → unsigned_abs (neg_ℤ (pos m)) ≡ m
size_of_negated zero = refl
size_of_negated (suc m) = refl

minus_is_signed : (signed : Bool) → is_sign signed minus ≡ true → signed ≡ true
minus_is_signed true h = refl
minus_is_signed false h = cc

pub signed_fits : (count : ℕ) (signed : Bool) (sign m : ℕ) → is_sign signed sign ≡ true → m < 10 ^ count → fits count signed (with_sign sign m) ≡ true
signed_fits count signed sign m allowed small = elim (nat_eq sign minus) as (λ b. nat_eq sign minus ≡ b → fits count signed (cond b (neg_ℤ (pos m)) (pos m)) ≡ true) [
  | true ↦ λ e.
      let is_minus : sign ≡ minus = eqb-true sign minus e in
      let is_signed : signed ≡ true = minus_is_signed signed (rw is_minus at allowed) in
      rw (is_signed, size_of_negated m) (lt-ltb m (10 ^ count) small)
  | false ↦ λ e.
      and_from (signed || not (nat_lt m 0)) (nat_lt m (10 ^ count)) (or_right signed (not (nat_lt m 0)) (rw (le-ltb m 0 (omega arith)) refl)) (lt-ltb m (10 ^ count) small)
] refl

-- the sign that is written

pub size_of_signed : (signed : Bool) (v : ℤ) → with_sign (sign_of signed v) (unsigned_abs v) ≡ v
size_of_signed true (pos n) = refl
size_of_signed false (pos n) = refl
size_of_signed signed (negsuc n) = refl

pub sign_written_is_read : (signed : Bool) (v : ℤ) → (signed || not (int_lt v (pos 0))) ≡ true → is_sign signed (sign_of signed v) ≡ true
sign_written_is_read true (pos n) h = refl
sign_written_is_read false (pos n) h = refl
sign_written_is_read true (negsuc n) h = refl
sign_written_is_read false (negsuc n) h = cc

pub sign_written_is_half : (signed : Bool) (v : ℤ) → nat_lt (sign_of signed v) 16 ≡ true
sign_written_is_half true (pos n) = refl
sign_written_is_half false (pos n) = refl
sign_written_is_half signed (negsuc n) = refl

pub written_sign : (count : ℕ) (signed : Bool) (v : ℤ) → fits count signed v ≡ true → ((signed || not (int_lt v (pos 0))) ≡ true) × (unsigned_abs v < 10 ^ count)
written_sign count signed v h =
    let both = and_parts (signed || not (int_lt v (pos 0))) (nat_lt (unsigned_abs v) (10 ^ count)) h in
    (both.0, ltb-true (unsigned_abs v) (10 ^ count) both.1)
