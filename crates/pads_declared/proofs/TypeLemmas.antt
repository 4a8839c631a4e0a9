-- The first type of a name among some, as their table finds it.
use Rattle.std.proofs.Common.{◌≡◌, ◌∙◌, sym, ap, refl, ℕ, zero, suc, nat_lt, Bool, true, false, ◌||◌, cond, List, [], ◌∷◌, length, take, Option, Some, None, is_some, find, position, slice_get, ltb-false, arith}
use Rattle.std.specs.List.{position_or_len, list_any}
use Rattle.std.proofs.lemmas.List.Folds.{find_at}
use Rattle.std.proofs.lemmas.Option.{slice_get_past}
use Rattle.pads_declared.proofs.NumberLemmas.{next, first-less, position-first, any-position}

-- the first place among the first so many
abbrev pub within : ℕ → Option ℕ → Option ℕ
within n None = None
within n (Some i) = cond (nat_lt i n) (Some i) None

later-within : (n : ℕ) (o : Option ℕ) → next false (within n o) ≡ within (suc n) (next false o)
later-within n None = refl
later-within n (Some i) = by (nat_lt i n) refl
  where
    by : (b : Bool) → nat_lt i n ≡ b → next false (cond b (Some i) None) ≡ cond (nat_lt (suc i) (suc n)) (Some (suc i)) None
    by true is = let e : nat_lt (suc i) (suc n) ≡ true = grind arith in sym (ap (λ b. cond b (Some (suc i)) None) e)
    by false is = let e : nat_lt (suc i) (suc n) ≡ false = grind arith in sym (ap (λ b. cond b (Some (suc i)) None) e)

none-within : (o : Option ℕ) → None ≡ within 0 o
none-within None = refl
none-within (Some i) = let e : nat_lt i 0 ≡ false = grind arith in sym (ap (λ b. cond b (Some i) None) e)

pub position-take : {X : Type 0} (p : X → Bool) (n : ℕ) (xs : List X) → position p (take n xs) ≡ within n (position p xs)
position-take p zero [] = refl
position-take p zero (x ∷ xs) = none-within (position p (x ∷ xs))
position-take p (suc n) [] = refl
position-take p (suc n) (x ∷ xs) = by (p x) refl (position-take p n xs)
  where
    by : (b : Bool) → p x ≡ b → position p (take n xs) ≡ within n (position p xs) → position p (x ∷ take n xs) ≡ within (suc n) (position p (x ∷ xs))
    by true is rest =
        position-first p x (take n xs) true is ∙ sym (ap (within (suc n)) (position-first p x xs true is) ∙ ap (λ b. cond b (Some 0) None) (first-less n))
    by false is rest =
        position-first p x (take n xs) false is ∙ ap (next false) rest ∙ later-within n (position p xs)
        ∙ sym (ap (within (suc n)) (position-first p x xs false is))

-- one passes where one is found
found-any : {X : Type 0} (p : X → Bool) (xs : List X) → is_some (find p xs) ≡ list_any p xs
found-any p [] = refl
found-any p (x ∷ xs) = by (p x) (found-any p xs)
  where
    by : (b : Bool) → is_some (find p xs) ≡ list_any p xs → is_some (cond b (Some x) (find p xs)) ≡ (b || list_any p xs)
    by true rest = refl
    by false rest = rest

pub found-there : {X : Type 0} (p : X → Bool) (xs : List X) → is_some (position p xs) ≡ is_some (find p xs)
found-there p xs = any-position p xs ∙ sym (found-any p xs)

-- one of the first so many is found where the first of all is one of them
pub found-before : {X : Type 0} (p : X → Bool) (n : ℕ) (xs : List X) (o : Option ℕ) → position p xs ≡ o → is_some (within n o) ≡ is_some (find p (take n xs))
found-before p n xs o is = ap (λ i. is_some (within n i)) (sym is) ∙ sym (ap is_some (position-take p n xs)) ∙ found-there p (take n xs)

pub first-before : {X : Type 0} (p : X → Bool) (n : ℕ) (xs : List X) (i : ℕ) → position p xs ≡ Some i → nat_lt i n ≡ is_some (find p (take n xs))
first-before p n xs i is = by (nat_lt i n) ∙ found-before p n xs (Some i) is
  where
    by : (b : Bool) → b ≡ is_some (cond b (Some i) None)
    by true = refl
    by false = refl

none-by : {A : Type 0} (xs : List A) (k : ℕ) (b : Bool) → nat_lt k (length xs) ≡ b → None ≡ cond b (Some k) None → None ≡ slice_get xs k
none-by xs k true less is = cc
none-by xs k false less is = sym (slice_get_past xs k (ltb-false k (length xs) less))

pub none-first : {A : Type 0} (p : A → Bool) (xs : List A) → None ≡ position p xs → None ≡ find p xs
none-first p xs is = none-by xs (position_or_len p xs) (nat_lt (position_or_len p xs) (length xs)) refl is ∙ sym (find_at p xs)
