-- What is left of a list from a place on, by what stands at the place.
use Rattle.std.proofs.Common.{◌≡◌, ℕ, zero, suc, ◌+◌, ◌<◌, ◌≤◌, List, [], ◌∷◌, length, drop, get_or, Some, None, slice_get, refl, ap, arith, add-one, drop-cons}

drop-there' : {X : Type 0} (xs : List X) (i : ℕ) (x : X) → slice_get xs i ≡ Some x → drop i xs ≡ x ∷ drop (suc i) xs
drop-there' [] i x there = cc
drop-there' (y ∷ xs) zero x there = let e : y ≡ x = cc in ap (λ z. z ∷ xs) e
drop-there' (y ∷ xs) (suc i) x there = drop-there' xs i x there

pub drop-there : {X : Type 0} (xs : List X) (i : ℕ) (x : X) → slice_get xs i ≡ Some x → drop i xs ≡ x ∷ drop (i + 1) xs
drop-there xs i x there = rw (add-one) (drop-there' xs i x there)

pub drop-past : {X : Type 0} (xs : List X) (i : ℕ) → slice_get xs i ≡ None → drop i xs ≡ []
drop-past [] zero past = refl
drop-past [] (suc i) past = refl
drop-past (y ∷ xs) zero past = cc
drop-past (y ∷ xs) (suc i) past = drop-past xs i past

pub drop-next : {X : Type 0} (xs : List X) (i : ℕ) (d : X) → i < length xs → drop i xs ≡ get_or xs i d ∷ drop (i + 1) xs
drop-next xs i d there = rw (add-one) (drop-cons xs i d there)

pub drop-past' : {X : Type 0} (xs : List X) (i : ℕ) → length xs ≤ i → drop i xs ≡ []
drop-past' [] zero over = refl
drop-past' [] (suc i) over = refl
drop-past' (y ∷ xs) zero over = absurd (omega arith)
drop-past' (y ∷ xs) (suc i) over = drop-past' xs i (omega arith)
