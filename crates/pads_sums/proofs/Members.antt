-- Membership in parts of a list, and lists in which no value comes twice.
use Rattle.std.proofs.Common.{◌≡◌, ◌∙◌, sym, ap, refl, ℕ, zero, suc, Bool, true, false, cond, ◌||◌, true≢false, List, [], ◌∷◌, ◌++◌, length, take}
use Rattle.std.specs.List.{filter, list_any}

module _ {X : Type 0} (test : X → Bool) where
  -- what isn't in a list isn't in its front
  front-step : (x : X) (xs : List X) (n : ℕ) (b : Bool) → test x ≡ b → (b || list_any test xs) ≡ false
      → (list_any test xs ≡ false → list_any test (take n xs) ≡ false) → (b || list_any test (take n xs)) ≡ false
  front-step x xs n true is none rest = none
  front-step x xs n false is none rest = rest none

  pub none_in_front : (n : ℕ) (xs : List X) → list_any test xs ≡ false → list_any test (take n xs) ≡ false
  none_in_front zero xs none = refl
  none_in_front (suc n) [] none = refl
  none_in_front (suc n) (x ∷ xs) none = front-step x xs n (test x) refl none (none_in_front n xs)

  -- nor in what a filter keeps
  filter-step : (p : X → Bool) (x : X) (xs : List X) (b a : Bool) → test x ≡ b → (b || list_any test xs) ≡ false
      → (list_any test xs ≡ false → list_any test (filter p xs) ≡ false) → list_any test (cond a (x ∷ filter p xs) (filter p xs)) ≡ false
  filter-step p x xs true a is none rest = absurd (true≢false none)
  filter-step p x xs false true is none rest = ap (λ c. c || list_any test (filter p xs)) is ∙ rest none
  filter-step p x xs false false is none rest = rest none

  pub none_in_filter : (p : X → Bool) (xs : List X) → list_any test xs ≡ false → list_any test (filter p xs) ≡ false
  none_in_filter p [] none = refl
  none_in_filter p (x ∷ xs) none = filter-step p x xs (test x) (p x) refl none (none_in_filter p xs)

  -- a front of two lists, where nothing passes in the second
  pub in_front_of_first : (n : ℕ) (xs ys : List X) → list_any test ys ≡ false → list_any test (take n (xs ++ ys)) ≡ list_any test (take n xs)
  in_front_of_first zero xs ys none = refl
  in_front_of_first (suc n) [] ys none = none_in_front (suc n) ys none
  in_front_of_first (suc n) (x ∷ xs) ys none = ap (λ b. test x || b) (in_front_of_first n xs ys none)

  -- where something passes, and nothing in the front, the front is full
  full-step : (x : X) (xs : List X) (n : ℕ) (b : Bool) → test x ≡ b → (b || list_any test xs) ≡ true → (b || list_any test (take n xs)) ≡ false
      → (list_any test xs ≡ true → list_any test (take n xs) ≡ false → length (take n xs) ≡ n) → suc (length (take n xs)) ≡ suc n
  full-step x xs n true is some none rest = absurd (true≢false none)
  full-step x xs n false is some none rest = ap suc (rest some none)

  pub front_is_full : (n : ℕ) (xs : List X) → list_any test xs ≡ true → list_any test (take n xs) ≡ false → length (take n xs) ≡ n
  front_is_full zero xs some none = refl
  front_is_full (suc n) [] some none = absurd (true≢false (sym some))
  front_is_full (suc n) (x ∷ xs) some none = full-step x xs n (test x) refl some none (front_is_full n xs)

-- no value comes a second time
module _ {X : Type 0} (eq : X → X → Bool) where
  abbrev pub Apart : List X → Type 0
  Apart [] = Unit {0}
  Apart (x ∷ xs) = (list_any (eq x) xs ≡ false) × Apart xs

  apart-filter-step : (p : X → Bool) (x : X) (xs : List X) (a : Bool) → list_any (eq x) (filter p xs) ≡ false → Apart (filter p xs)
      → Apart (cond a (x ∷ filter p xs) (filter p xs))
  apart-filter-step p x xs true none rest = (none, rest)
  apart-filter-step p x xs false none rest = rest

  pub apart_filter : (p : X → Bool) (xs : List X) → Apart xs → Apart (filter p xs)
  apart_filter p [] h = tt
  apart_filter p (x ∷ xs) h = apart-filter-step p x xs (p x) (none_in_filter (eq x) p xs h.0) (apart_filter p xs h.1)

  pub apart_front : (n : ℕ) (xs : List X) → Apart xs → Apart (take n xs)
  apart_front zero xs h = tt
  apart_front (suc n) [] h = tt
  apart_front (suc n) (x ∷ xs) h = (none_in_front (eq x) n xs h.0, apart_front n xs h.1)
