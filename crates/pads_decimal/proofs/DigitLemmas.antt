-- Digits and their number.
use Rattle.std.proofs.Common.{◌≡◌, ℕ, zero, suc, ◌+◌, ◌*◌, ◌-◌, ◌/◌, ◌%◌, ◌^◌, ◌<◌, ◌≤◌, Bool, true, false, cond, ◌&&◌, nat_le, ℤ, pos, negsuc, List, [], ◌∷◌, ◌++◌, length, Option, Some, None, refl, sym, ap, ◌∙◌, arith}
use Rattle.std.specs.Int.Digits.{number_from_digits, number_from_digits_after, AllBelowBase}
use Rattle.std.specs.List.{list_all}
use Rattle.std.proofs.Math.Arith.{mod-mul}
use Rattle.std.proofs.Math.Nat.{mod-eq_of_lt, div-eq_of_lt, pow-le-pow_right, one-le-pow, mod-lt}
use Rattle.std.proofs.lemmas.Bool.{and_parts, and_from, ltb-true, lt-ltb, leb-true, eqb-true, eqb-false}
use Rattle.std.proofs.lemmas.Int.Digits.{number_lt}
use Rattle.pads_decimal.specs.Digits.{digit_count, last_digits}
use Rattle.pads_decimal.specs.HalfBytes.{is_digit}
use Rattle.pads_decimal.specs.Packed.{is_padded, pad}

-- what a test lets through
pub some_if : {A : Type 0} (b : Bool) (x s : A) → cond b (Some x) None ≡ Some s → (b ≡ true) × (s ≡ x)
some_if true x s e = (refl, cc)
some_if false x s e = cc

pub record CountBounds (count : ℕ) : Type 0 where
  pub some : 1 ≤ count
  pub few : count ≤ 18

pub count_bounds : (digits : ℤ) (count : ℕ) → digit_count digits ≡ Some count → CountBounds count
count_bounds (negsuc d) count e = cc
count_bounds (pos d) count e =
    let let_through = some_if (nat_le 1 d && nat_le d 18) d count e in
    let both = and_parts (nat_le 1 d) (nat_le d 18) let_through.0 in
    record { some = omega (arith, leb-true 1 d both.0, let_through.1); few = omega (arith, leb-true d 18 both.1, let_through.1) }

-- the number of so many digits is small

below_ten : (ds : List ℕ) → list_all is_digit ds ≡ true → AllBelowBase 10 ds
below_ten [] all = tt
below_ten (d ∷ ds) all = let both = and_parts (is_digit d) (list_all is_digit ds) all in (ltb-true d 10 both.0, below_ten ds both.1)

pub number_small : (ds : List ℕ) (k : ℕ) → list_all is_digit ds ≡ true → length ds ≤ k → number_from_digits 10 ds < 10 ^ k
number_small ds k all short = omega (arith, number_lt 10 ds (below_ten ds all), pow-le-pow_right {n = 10} (omega arith) {i = length ds} {j = k} short)

-- the last digits of a number

pub length-last_digits : (k n : ℕ) → length (last_digits k n) ≡ k
length-last_digits zero n = refl
length-last_digits (suc k) n = omega (arith, length-last_digits k n)

pub last_digits-digits : (k n : ℕ) → list_all is_digit (last_digits k n) ≡ true
last_digits-digits zero n = refl
last_digits-digits (suc k) n =
    and_from (is_digit (n / 10 ^ k % 10)) (list_all is_digit (last_digits k n)) (lt-ltb (n / 10 ^ k % 10) 10 (mod-lt (n / 10 ^ k) (omega arith))) (last_digits-digits k n)

number_after : (k m n : ℕ) → number_from_digits_after 10 m (last_digits k n) ≡ m * 10 ^ k + n % 10 ^ k
number_after zero m n = omega arith
number_after (suc k) m n =
    let power : 10 ^ suc k ≡ 10 * 10 ^ k = omega arith in
    let some : 0 < 10 ^ k = one-le-pow k 10 (omega arith) in
    let split : n % (10 * 10 ^ k) ≡ (n / 10 ^ k % 10) * 10 ^ k + n % 10 ^ k = mod-mul n {m = 10} {c = 10 ^ k} (omega arith) some in
    number_after k (m * 10 + n / 10 ^ k % 10) n ∙ rw (power, split) (omega arith)

pub number-last_digits : (k n : ℕ) → n < 10 ^ k → number_from_digits 10 (last_digits k n) ≡ n
number-last_digits k n small = number_after k 0 n ∙ omega (arith, mod-eq_of_lt {n = n} {m = 10 ^ k} small)

-- a number of so many digits has a 0 in front of them
pub zero_in_front : (k n : ℕ) → n < 10 ^ k → last_digits (suc k) n ≡ 0 ∷ last_digits k n
zero_in_front k n small = rw (div-eq_of_lt {n = n} {m = 10 ^ k} small) refl

pub padded_digits : (count n : ℕ) → n < 10 ^ count → pad (is_padded count) ++ last_digits count n ≡ last_digits (2 * (count / 2) + 1) n
padded_digits count n small = elim (is_padded count) as (λ b. is_padded count ≡ b → pad b ++ last_digits count n ≡ last_digits (2 * (count / 2) + 1) n) [
  | true ↦ λ e.
      let even : count % 2 ≡ 0 = eqb-true (count % 2) 0 e in
      let all : 2 * (count / 2) + 1 ≡ suc count = omega arith in
      rw (all, zero_in_front count n small) refl
  | false ↦ λ e.
      let odd = eqb-false (count % 2) 0 e in
      let all : 2 * (count / 2) + 1 ≡ count = omega (arith, odd) in
      rw all refl
] refl

-- behind the pad there are so many digits
pub many_behind_pad : (count k : ℕ) (padded : Bool) → is_padded count ≡ padded → 2 * (count / 2) + 1 ≡ length (pad padded) + k → k ≡ count
many_behind_pad count k true e all = let even : count % 2 ≡ 0 = eqb-true (count % 2) 0 e in omega arith
many_behind_pad count k false e all = let odd = eqb-false (count % 2) 0 e in omega (arith, odd)
