-- Two lists side by side.
use Rattle.std.proofs.Common.{arith, ◌≡◌, refl, ℕ, zero, suc, ◌≤◌, min, length, drop, List, [], ◌∷◌}
use Rattle.std.specs.List.{zip}

zip_nothing : {K X : Type 0} (xs : List K) → zip {X = X} xs [] ≡ []
zip_nothing [] = refl
zip_nothing (x ∷ xs) = refl

-- Past the end of the shorter one nothing is left.
pub zip_past : {K X : Type 0} (xs : List K) (ys : List X) (i : ℕ) → min (length xs) (length ys) ≤ i → zip (drop i xs) (drop i ys) ≡ []
zip_past [] ys zero past = refl
zip_past [] ys (suc i) past = refl
zip_past (x ∷ xs) [] zero past = refl
zip_past (x ∷ xs) [] (suc i) past = zip_nothing (drop i xs)
zip_past (x ∷ xs) (y ∷ ys) zero past = absurd (omega arith)
zip_past (x ∷ xs) (y ∷ ys) (suc i) past = zip_past xs ys i (omega arith)
