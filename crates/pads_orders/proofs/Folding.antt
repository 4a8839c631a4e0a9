-- A number only grows as digits come.
use Rattle.std.proofs.Common.{◌≡◌, ℕ, ◌+◌, ◌*◌, ◌-◌, ◌≤◌, ◌<◌, List, [], ◌∷◌, ◌++◌, take, drop, get_or, suc, length, fold, ap, ◌∙◌, refl, sym, arith}
use Rattle.std.proofs.Math.Seq.{take-suc}
use Rattle.std.proofs.lemmas.List.{take-append-drop}
use Rattle.pads_code.specs.Numerals.{number}

abbrev pub digits_after : ℕ → List ℕ → ℕ
digits_after n digits = fold (λ n digit. n * 10 + (digit - 48)) n digits

pub grows : (n : ℕ) (digits : List ℕ) → n ≤ digits_after n digits
grows n [] = omega arith
grows n (d ∷ digits) = let more = grows (n * 10 + (d - 48)) digits in omega arith

pub after_append : (n : ℕ) (front back : List ℕ) → digits_after n (front ++ back) ≡ digits_after (digits_after n front) back
after_append n [] back = refl
after_append n (d ∷ front) back = after_append (n * 10 + (d - 48)) front back

-- digits in front of others write no greater number
pub front_least : (i : ℕ) (digits : List ℕ) → number (take i digits) ≤ number digits
front_least i digits =
    let whole : number digits ≡ digits_after (number (take i digits)) (drop i digits) =
    rw (sym (after_append 0 (take i digits) (drop i digits)), take-append-drop i digits) refl in
    rw whole (grows (number (take i digits)) (drop i digits))

-- one digit more
pub one_more : (i : ℕ) (digits : List ℕ) → i < length digits → number (take (i + 1) digits) ≡ number (take i digits) * 10 + (get_or digits i 0 - 48)
one_more i digits h =
    let next : i + 1 ≡ suc i = omega arith in
    let cut : take (i + 1) digits ≡ take i digits ++ get_or digits i 0 ∷ [] = ap (λ k. take k digits) next ∙ take-suc digits i 0 h in
    rw cut (after_append 0 (take i digits) (get_or digits i 0 ∷ []))
