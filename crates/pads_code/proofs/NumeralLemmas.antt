-- Runs of digits: their form, their number, and the decimal text of a number.
use Rattle.std.proofs.Common.{◌≡◌, ℕ, zero, suc, ◌+◌, ◌*◌, ◌-◌, ◌<◌, ◌≤◌, ◌^◌, Bool, true, false, cond, List, [], ◌∷◌, ◌++◌, length, replicate, Option, Some, None, refl, arith, rules}
use Rattle.std.specs.Char.{is_ascii_digit}
use Rattle.std.specs.List.{prefix_len, take_while, list_all, fold}
use Rattle.std.specs.Fmt.{decimal}
use Rattle.std.proofs.Math.Seq.{take-length}
use Rattle.std.proofs.lemmas.Bool.{ne_eqb, and_parts}
use Rattle.std.proofs.lemmas.List.Sums.{take_while-cons}
use Rattle.std.proofs.lemmas.Str.Parse.{IsDigitsTest, IsNumeralModel, numerals_by_fold, digits_value_short}
use Rattle.std.proofs.lemmas.Fmt.{digits_decimal, digits_value-decimal, decimal_nonempty, length-decimal-le}
use Rattle.pads_code.specs.Numerals.{is_numeral, number}

tells : IsDigitsTest (λ ds. list_all is_ascii_digit ds ≡ true)
tells = search rules

own : IsNumeralModel (λ ds. list_all is_ascii_digit ds ≡ true) number
own = numerals_by_fold _ tells (λ n ds. fold (λ m d. m * 10 + (d - 48)) n ds) (search rules)

-- a text that is spelled where a test lets it
pub spelled_if : (b : Bool) (x s : List ℕ) → cond b (Some x) None ≡ Some s → (b ≡ true) × (s ≡ x)
spelled_if true x s e = (refl, cc)
spelled_if false x s e = cc

-- a numeral has a digit, and digits alone
pub numeral_parts : (ds : List ℕ) → is_numeral ds ≡ true → (0 < length ds) × (list_all is_ascii_digit ds ≡ true)
numeral_parts [] h = cc
numeral_parts (d ∷ ds) h = (omega arith, rw (ne_eqb (suc (length ds)) 0 (λ e. omega arith)) at h)

pub numeral_from : (ds : List ℕ) → 0 < length ds → list_all is_ascii_digit ds ≡ true → is_numeral ds ≡ true
numeral_from [] some all = absurd (omega arith)
numeral_from (d ∷ ds) some all = rw (ne_eqb (suc (length ds)) 0 (λ e. omega arith)) all

pub digits_run : (p : ℕ → Bool) (ds : List ℕ) → list_all p ds ≡ true → prefix_len p ds ≡ length ds
digits_run p [] h = refl
digits_run p (d ∷ ds) h = let both = and_parts (p d) (list_all p ds) h in rw (both.0, digits_run p ds both.1) (omega arith)

pub whole_run : (p : ℕ → Bool) (ds : List ℕ) → list_all p ds ≡ true → take_while p ds ≡ ds
whole_run p ds h = rw (digits_run p ds h) (take-length ds)

-- each element of the run passes
pub run_passes : (p : ℕ → Bool) (xs : List ℕ) → list_all p (take_while p xs) ≡ true
run_passes p [] = refl
run_passes p (x ∷ xs) = elim (p x) as (λ b. p x ≡ b → list_all p (take_while p (x ∷ xs)) ≡ true) [
  | true ↦ λ e. rw (take_while-cons p x xs, e, e) (run_passes p xs)
  | false ↦ λ e. rw (take_while-cons p x xs, e) refl
] refl

pub decimal-numeral : (n : ℕ) → n < 2 ^ 64 → is_numeral (decimal n) ≡ true
decimal-numeral n h = numeral_from (decimal n) (decimal_nonempty n h) (digits_decimal own n h)

pub number-decimal : (n : ℕ) → n < 2 ^ 64 → number (decimal n) ≡ n
number-decimal n h = digits_value-decimal own n h

-- no digits write their number shorter than its decimal text does
pub length-decimal-number : (ds : List ℕ) → is_numeral ds ≡ true → number ds < 2 ^ 64 → length (decimal (number ds)) ≤ length ds
length-decimal-number ds h small =
    let parts = numeral_parts ds h in
    length-decimal-le (length ds) (number ds) parts.0 (digits_value_short own ds (length ds) parts.1 (omega arith)) small

zeros_longer : (n : ℕ) (ds : List ℕ) → 0 < length ds → 0 < length (replicate n 48 ++ ds)
zeros_longer zero ds h = h
zeros_longer (suc n) ds h = omega arith

zeros_all : (n : ℕ) (ds : List ℕ) → list_all is_ascii_digit ds ≡ true → list_all is_ascii_digit (replicate n 48 ++ ds) ≡ true
zeros_all zero ds h = h
zeros_all (suc n) ds h = zeros_all n ds h

-- zeros in front leave a numeral and its number
pub zeros-numeral : (n : ℕ) (ds : List ℕ) → is_numeral ds ≡ true → is_numeral (replicate n 48 ++ ds) ≡ true
zeros-numeral n ds h = let parts = numeral_parts ds h in numeral_from _ (zeros_longer n ds parts.0) (zeros_all n ds parts.1)

pub zeros-number : (n : ℕ) (ds : List ℕ) → number (replicate n 48 ++ ds) ≡ number ds
zeros-number zero ds = refl
zeros-number (suc n) ds = zeros-number n ds
