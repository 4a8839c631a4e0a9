-- Places in lists.
use Rattle.std.proofs.Common.{◌≡◌, ◌∙◌, sym, ap, refl, arith, ℕ, zero, suc, ◌+◌, ◌<◌, ◌≤◌, Bool, cond, List, [], ◌∷◌, ◌++◌, length, take, find, position, Some, None, slice_get, lt-ltb}
use Rattle.std.specs.List.{enumerate_from, position_or_len}
use Rattle.std.proofs.lemmas.List.Folds.{find_at}
use Rattle.pads_rules.specs.Faults.{each}
use Rattle.pads_rules.specs.declared.fault.CheckFault.{CheckFault}
use Rattle.law_descriptions.specs.WellSorted.{Each}
use Rattle.pads_rules.proofs.Faultless.{none-left, none-right}
use Rattle.law_calculus.proofs.Bases.{there-below}

pub get-behind : {A : Type 0} (xs : List A) (x : A) (ys : List A) → slice_get (xs ++ x ∷ ys) (length xs) ≡ Some x
get-behind [] x ys = refl
get-behind (first ∷ xs) x ys = get-behind xs x ys

pub take-front : {A : Type 0} (xs ys : List A) → take (length xs) (xs ++ ys) ≡ xs
take-front [] ys = refl
take-front (x ∷ xs) ys = ap (λ rest. x ∷ rest) (take-front xs ys)

pub get-there : {A : Type 0} (xs : List A) (n : ℕ) → n < length xs → (x : A) × (slice_get xs n ≡ Some x)
get-there [] n less = absurd (omega arith)
get-there (x ∷ xs) zero less = (x, refl)
get-there (x ∷ xs) (suc n) less = get-there xs n (omega arith)

-- what stands among the first stands in the whole
pub taken-there : {A : Type 0} (xs : List A) (n k : ℕ) (x : A) → slice_get (take n xs) k ≡ Some x → (k < n) × (slice_get xs k ≡ Some x)
taken-there xs zero k x there = cc
taken-there [] (suc n) k x there = cc
taken-there (first ∷ xs) (suc n) zero x there = (omega arith, there)
taken-there (first ∷ xs) (suc n) (suc k) x there = let h = taken-there xs n k x there in (omega (arith, h.0), h.1)

pub length-taken : {A : Type 0} (xs : List A) (n : ℕ) → n ≤ length xs → length (take n xs) ≡ n
length-taken xs zero within = refl
length-taken [] (suc n) within = absurd (omega arith)
length-taken (x ∷ xs) (suc n) within = let h = length-taken xs n (omega arith) in omega arith

-- the first that passes has the first place
pub found-place : {A : Type 0} (p : A → Bool) (xs : List A) (x : A) → find p xs ≡ Some x → (k : ℕ) × (position p xs ≡ Some k) × (slice_get xs k ≡ Some x)
found-place p xs x found =
    let k = position_or_len p xs in
    let there : slice_get xs k ≡ Some x = sym (find_at p xs) ∙ found in
    (k, ap (λ b. cond b (Some k) None) (lt-ltb k (length xs) (there-below xs k x there)), there)

-- items by number
pub numbered-there : {A : Type 0} (xs : List A) (from n : ℕ) (x : A) → slice_get xs n ≡ Some x → slice_get (enumerate_from from xs) n ≡ Some (from + n, x)
numbered-there [] from n x there = cc
numbered-there (first ∷ xs) from zero x there =
    let same : first ≡ x = cc in
    let number : from ≡ from + 0 = omega arith in
    ap (λ (m : ℕ). Some (m, first)) number ∙ ap (λ x. Some (from + 0, x)) same
numbered-there (first ∷ xs) from (suc n) x there =
    let number : from + 1 + n ≡ from + suc n = omega arith in
    numbered-there xs (from + 1) n x there ∙ ap (λ (m : ℕ). Some (m, x)) number

pub numbered-back : {A : Type 0} (xs : List A) (from n : ℕ) (y : ℕ × A) → slice_get (enumerate_from from xs) n ≡ Some y → (x : A) × (slice_get xs n ≡ Some x) × (y ≡ (from + n, x))
numbered-back [] from n y there = cc
numbered-back (first ∷ xs) from zero y there =
    let number : from ≡ from + 0 = omega arith in
    let same : (from, first) ≡ y = cc in (first, refl, sym same ∙ ap (λ (m : ℕ). (m, first)) number)
numbered-back (first ∷ xs) from (suc n) y there =
    let rest = numbered-back xs (from + 1) n y there in
    let number : from + 1 + n ≡ from + suc n = omega arith in
    (rest.0, rest.1, rest.2 ∙ ap (λ (m : ℕ). (m, rest.0)) number)

-- no violations of any are none of each
pub each-none : {A : Type 0} (rule : A → List CheckFault) (xs : List A) → each rule xs ≡ [] → Each (λ x. rule x ≡ []) xs
each-none rule [] none = tt
each-none rule (x ∷ xs) none = (none-left (rule x) (each rule xs) none, each-none rule xs (none-right (rule x) (each rule xs) none))

pub none-at : {A : Type 0} (rule : A → List CheckFault) (xs : List A) (n : ℕ) (x : A) → each rule xs ≡ [] → slice_get xs n ≡ Some x → rule x ≡ []
none-at rule [] n x none there = cc
none-at rule (first ∷ xs) zero x none there = let same : first ≡ x = cc in ap rule (sym same) ∙ none-left (rule first) (each rule xs) none
none-at rule (first ∷ xs) (suc n) x none there = none-at rule xs n x (none-right (rule first) (each rule xs) none) there
