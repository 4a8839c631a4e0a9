-- Items merged with later ones, from the last of those to the first; and a search through two lists from
-- their first items on.
use Rattle.std.proofs.Common.{◌≡◌, ◌∙◌, sym, ap, refl, ℕ, zero, suc, ◌+◌, ◌<◌, List, [], ◌∷◌, ◌++◌, length, Option, Some, None, slice_get, slice_set}
use Rattle.pads_accum.specs.Merging.{each_with, one_with, put_with}

module _ {X : Type 0} (f : X → X → X) where
  pub each_none : (xs : List X) → each_with f xs [] ≡ xs
  each_none [] = refl
  each_none (x ∷ xs) = refl

  put-later : (o : Option X) (x : X) (xs : List X) (n : ℕ) (later : X) → put_with f o (x ∷ xs) (suc n) later ≡ x ∷ put_with f o xs n later
  put-later None x xs n later = refl
  put-later (Some here) x xs n later = refl

  put-nowhere : (n : ℕ) (later : X) → one_with f [] n later ≡ []
  put-nowhere n later = refl

  -- the last one first
  pub last_first : (xs done : List X) (later : X) → each_with f (one_with f xs (length done) later) done ≡ each_with f xs (done ++ later ∷ [])
  last_first [] done later = ap (λ ys. each_with f ys done) (put-nowhere (length done) later)
  last_first (x ∷ xs) [] later = ap (λ ys. f x later ∷ ys) (sym (each_none xs))
  last_first (x ∷ xs) (d ∷ done) later =
      ap (λ ys. each_with f ys (d ∷ done)) (put-later (slice_get xs (length done)) x xs (length done) later)
      ∙ ap (λ ys. f x d ∷ ys) (last_first xs done later)

  pub turn : (xs new whole rest left : List X) (n : ℕ) (later : X) → new ≡ one_with f xs n later → n ≡ length left → rest ≡ left ++ later ∷ []
      → each_with f xs rest ≡ whole → each_with f new left ≡ whole
  turn xs new whole rest left n later is at popped before =
      ap (λ ys. each_with f ys left) (is ∙ ap (λ k. one_with f xs k later) at) ∙ last_first xs left later ∙ ap (each_with f xs) (sym popped) ∙ before

  pub last_turn : (xs whole rest : List X) → rest ≡ [] → each_with f xs rest ≡ whole → xs ≡ whole
  last_turn xs whole rest none before = sym (each_none xs) ∙ ap (each_with f xs) (sym none) ∙ before
