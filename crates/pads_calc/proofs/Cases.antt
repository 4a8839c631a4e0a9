-- A choice, by cases of its test, with the equation of each case.
use Rattle.std.proofs.Common.{◌≡◌, Bool, true, false, if◌then◌else◌, refl}

module _ {A : Type 0} (P : A → Type 0) where
  pub pick : (b : Bool) (x y : A) → (b ≡ true → P x) → (b ≡ false → P y) → P (if b then x else y)
  pick true x y holds fails = holds refl
  pick false x y holds fails = fails refl
