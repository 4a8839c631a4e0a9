-- Copies of maps have the same pairs.
use Rattle.std.proofs.Common.{◌≡◌, refl, ℕ, ℤ, List, [], ◌∷◌, map}
use Rattle.std.specs.List.{AllZip}
use Rattle.std.specs.declared.alloc.Global.{Global}
use Rattle.std.specs.declared.vec.Vec.{Vec}
use Rattle.std.proofs.Common.{vec_len}
use Rattle.pads_sums.specs.Samples.{text}
use Rattle.pads_sums.specs.Seen.{number_pair, text_pair}

pub numbers_copied : (entries copies : List (ℤ × ℕ)) → AllZip (λ e c. (c.0 ≡ e.0) × (c.1 ≡ e.1)) entries copies
    → map number_pair copies ≡ map number_pair entries
numbers_copied [] [] same = refl
numbers_copied [] (c ∷ copies) same = absurd same
numbers_copied (e ∷ entries) [] same = absurd same
numbers_copied (e ∷ entries) (c ∷ copies) same = (λ i. number_pair (same.0.0 i, same.0.1 i) ∷ numbers_copied entries copies same.1 i)

same_items : (xs ys : List ℕ) → AllZip (λ x y. y ≡ x) xs ys → ys ≡ xs
same_items [] [] same = refl
same_items [] (y ∷ ys) same = absurd same
same_items (x ∷ xs) [] same = absurd same
same_items (x ∷ xs) (y ∷ ys) same = (λ i. same.0 i ∷ same_items xs ys same.1 i)

pub texts_copied : (entries copies : List (Vec ℕ Global × ℕ))
    → AllZip (λ e c. (AllZip (λ x y. y ≡ x) e.0.items c.0.items × (vec_len c.0 ≡ vec_len e.0)) × (c.1 ≡ e.1)) entries copies
    → map text_pair copies ≡ map text_pair entries
texts_copied [] [] same = refl
texts_copied [] (c ∷ copies) same = absurd same
texts_copied (e ∷ entries) [] same = absurd same
texts_copied (e ∷ entries) (c ∷ copies) same =
    (λ i. (text (same_items e.0.items c.0.items same.0.0.0 i), same.0.1 i) ∷ texts_copied entries copies same.1 i)
