-- Items of a list by their numbers, after a write and after one more item.
use Rattle.std.proofs.Common.{◌≡◌, sym, ap, refl, ℕ, zero, suc, true≢false, List, [], ◌∷◌, Some, is_some, slice_get, slice_set}

module _ {X : Type 0} where
  pub get_set_same : (xs : List X) (i : ℕ) (new old : X) → slice_get xs i ≡ Some old → slice_get (slice_set xs i new) i ≡ Some new
  get_set_same [] i new old at = absurd (true≢false (sym (ap is_some at)))
  get_set_same (x ∷ xs) zero new old at = refl
  get_set_same (x ∷ xs) (suc i) new old at = get_set_same xs i new old at

  pub get_set_other : (xs : List X) (i j : ℕ) (new : X) → (j ≡ i → ⊥) → slice_get (slice_set xs i new) j ≡ slice_get xs j
  get_set_other [] i j new apart = refl
  get_set_other (x ∷ xs) zero zero new apart = absurd (apart refl)
  get_set_other (x ∷ xs) zero (suc j) new apart = refl
  get_set_other (x ∷ xs) (suc i) zero new apart = refl
  get_set_other (x ∷ xs) (suc i) (suc j) new apart = get_set_other xs i j new (λ e. apart (ap suc e))
