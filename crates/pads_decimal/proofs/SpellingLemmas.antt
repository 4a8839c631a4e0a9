-- What the code spells is the canonical spelling.
use Rattle.std.proofs.Common.{◌≡◌, ℕ, suc, ◌+◌, ◌*◌, ◌-◌, ◌/◌, ◌%◌, ◌^◌, ◌<◌, ◌≤◌, Bool, true, false, ◌||◌, not, int_lt, ℤ, pos, List, [], ◌∷◌, ◌++◌, replicate, Option, Some, None, refl, sym, ap, ◌∙◌, arith, append_assoc, append-nil}
use Rattle.std.specs.Int.RustNames.{unsigned_abs}
use Rattle.std.proofs.Math.Nat.{pow-le-pow_right}
use Rattle.pads_decimal.specs.Digits.{digit_count, last_digits, fits}
use Rattle.pads_decimal.specs.HalfBytes.{joined}
use Rattle.pads_decimal.specs.Packed.{is_padded, pad, packed_bytes, packed_spelling}
use Rattle.pads_decimal.specs.Signs.{sign_of}
use Rattle.pads_decimal.specs.Zoned.{zone, zones, in_zones, zoned_bytes, zoned_spelling}
use Rattle.pads_decimal.proofs.DigitLemmas.{CountBounds, padded_digits}
use Rattle.pads_decimal.proofs.Good.{written_sign}

-- powers of so many digits
pub power_small : (k : ℕ) → k ≤ 18 → 10 ^ k ≤ 10 ^ 18
power_small k few = pow-le-pow_right {n = 10} (omega arith) {i = k} {j = 18} few

-- a packed decimal from a pair of digits on, the pairs counted from the sign
unfoldable pub packed_rest : ℕ → ℕ → ℕ → List ℕ
packed_rest n sign j = joined (last_digits (2 * j + 1) n ++ sign ∷ [])

next_pair : (n sign j place : ℕ) → place ≡ 2 * j + 2 → packed_rest n sign (suc j) ≡ ((n / 10 ^ place % 10) * 16 + n / 10 ^ (place - 1) % 10) ∷ packed_rest n sign j
unfolding packed_rest
next_pair n sign j place is =
    let all : 2 * suc j + 1 ≡ suc (suc (2 * j + 1)) = omega arith in
    let high_place : place ≡ suc (2 * j + 1) = omega arith in
    let low_place : place - 1 ≡ 2 * j + 1 = omega arith in
    rw (all, low_place, high_place) refl

pub packed_more : (items whole : List ℕ) (n sign pairs done place : ℕ) → done < pairs → place ≡ 2 * (pairs - done) → items ++ packed_rest n sign (pairs - done) ≡ whole
    → (items ++ ((n / 10 ^ place % 10) * 16 + n / 10 ^ (place - 1) % 10) ∷ []) ++ packed_rest n sign (pairs - (done + 1)) ≡ whole
packed_more items whole n sign pairs done place lt at so_far =
    let left : pairs - done ≡ suc (pairs - (done + 1)) = omega arith in
    let byte : ℕ = (n / 10 ^ place % 10) * 16 + n / 10 ^ (place - 1) % 10 in
    let next = next_pair n sign (pairs - (done + 1)) place (omega arith) in
    append_assoc items (byte ∷ []) (packed_rest n sign (pairs - (done + 1))) ∙ ap (λ xs. items ++ xs) (sym next) ∙ ap (λ j. items ++ packed_rest n sign j) (sym left) ∙ so_far

pub packed_last : (items whole : List ℕ) (n sign pairs done : ℕ) → done ≡ pairs → items ++ packed_rest n sign (pairs - done) ≡ whole → items ++ ((n / 10 ^ 0 % 10) * 16 + sign) ∷ [] ≡ whole
unfolding packed_rest
packed_last items whole n sign pairs done is so_far = let none : pairs - done ≡ 0 = omega arith in rw none at so_far

pub packed_first : (count n sign : ℕ) → n < 10 ^ count → packed_rest n sign (count / 2) ≡ joined (pad (is_padded count) ++ (last_digits count n ++ sign ∷ []))
unfolding packed_rest
packed_first count n sign small =
    ap (λ ds. joined (ds ++ sign ∷ [])) (sym (padded_digits count n small)) ∙ ap joined (append_assoc (pad (is_padded count)) (last_digits count n) (sign ∷ []))

-- a zoned decimal from a digit on, the digits counted from the last
unfoldable pub zoned_rest : ℕ → ℕ → ℕ → List ℕ
zoned_rest n sign j = in_zones (replicate j zone ++ sign ∷ []) (last_digits (suc j) n)

next_digit : (n sign j : ℕ) → zoned_rest n sign (suc j) ≡ (zone * 16 + n / 10 ^ suc j % 10) ∷ zoned_rest n sign j
unfolding zoned_rest
next_digit n sign j = refl

pub zoned_more : (items whole : List ℕ) (n sign last done place : ℕ) → done < last → place ≡ last - done → items ++ zoned_rest n sign (last - done) ≡ whole
    → (items ++ (zone * 16 + n / 10 ^ place % 10) ∷ []) ++ zoned_rest n sign (last - (done + 1)) ≡ whole
zoned_more items whole n sign last done place lt at so_far =
    let left : last - done ≡ suc (last - (done + 1)) = omega arith in
    let here : place ≡ suc (last - (done + 1)) = omega arith in
    let byte : ℕ = zone * 16 + n / 10 ^ place % 10 in
    let next : zoned_rest n sign (suc (last - (done + 1))) ≡ byte ∷ zoned_rest n sign (last - (done + 1)) = rw here (next_digit n sign (last - (done + 1))) in
    append_assoc items (byte ∷ []) (zoned_rest n sign (last - (done + 1))) ∙ ap (λ xs. items ++ xs) (sym next) ∙ ap (λ j. items ++ zoned_rest n sign j) (sym left) ∙ so_far

pub zoned_last : (items whole : List ℕ) (n sign last done : ℕ) → done ≡ last → items ++ zoned_rest n sign (last - done) ≡ whole → items ++ (sign * 16 + n / 10 ^ 0 % 10) ∷ [] ≡ whole
unfolding zoned_rest
zoned_last items whole n sign last done is so_far = let none : last - done ≡ 0 = omega arith in rw none at so_far

pub zoned_first : (count n sign : ℕ) → 1 ≤ count → zoned_rest n sign (count - 1) ≡ in_zones (zones count sign) (last_digits count n)
unfolding zoned_rest
zoned_first count n sign some = let all : suc (count - 1) ≡ count = omega arith in ap (λ k. in_zones (zones count sign) (last_digits k n)) all

-- the spelling of a number

pub packed_uncounted : (digits : ℤ) (signed : Bool) (v : ℤ) → None ≡ digit_count digits → None ≡ packed_spelling digits signed v
unfolding packed_spelling
packed_uncounted digits signed v none = rw (← none) refl

pub packed_unfit : (digits : ℤ) (signed : Bool) (v : ℤ) (count : ℕ) → Some count ≡ digit_count digits → fits count signed v ≡ false → None ≡ packed_spelling digits signed v
unfolding packed_spelling packed_bytes
packed_unfit digits signed v count some unfit = rw (← some, unfit) refl

pub packed_spelled : (digits : ℤ) (signed : Bool) (v : ℤ) (count : ℕ) (bytes : List ℕ) → Some count ≡ digit_count digits → fits count signed v ≡ true
    → bytes ≡ joined (pad (is_padded count) ++ (last_digits count (unsigned_abs v) ++ sign_of signed v ∷ [])) → Some bytes ≡ packed_spelling digits signed v
unfolding packed_spelling packed_bytes
packed_spelled digits signed v count bytes some fit are = rw (← some, fit, are) refl

pub zoned_uncounted : (digits : ℤ) (signed : Bool) (v : ℤ) → None ≡ digit_count digits → None ≡ zoned_spelling digits signed v
unfolding zoned_spelling
zoned_uncounted digits signed v none = rw (← none) refl

pub zoned_unfit : (digits : ℤ) (signed : Bool) (v : ℤ) (count : ℕ) → Some count ≡ digit_count digits → fits count signed v ≡ false → None ≡ zoned_spelling digits signed v
unfolding zoned_spelling zoned_bytes
zoned_unfit digits signed v count some unfit = rw (← some, unfit) refl

pub zoned_spelled : (digits : ℤ) (signed : Bool) (v : ℤ) (count : ℕ) (bytes : List ℕ) → Some count ≡ digit_count digits → fits count signed v ≡ true
    → bytes ≡ in_zones (zones count (sign_of signed v)) (last_digits count (unsigned_abs v)) → Some bytes ≡ zoned_spelling digits signed v
unfolding zoned_spelling zoned_bytes
zoned_spelled digits signed v count bytes some fit are = rw (← some, fit, are) refl

-- a number that fits has at most 18 digits
pub fit_small : (count : ℕ) (signed : Bool) (v : ℤ) → count ≤ 18 → fits count signed v ≡ true → unsigned_abs v < 10 ^ 18
fit_small count signed v few fit = omega (arith, (written_sign count signed v fit).1, power_small count few)
