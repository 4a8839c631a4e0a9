-- One step of the cutting.
use Rattle.std.proofs.Common.{◌≡◌, ℕ, zero, suc, ◌+◌, ◌-◌, ◌<◌, Bool, true, false, ◌||◌, List, [], ◌∷◌, length, drop, refl, ap, ◌∙◌, arith, add-zero}
use Rattle.pads_frame.specs.declared.discipline.Discipline.{Discipline}
use Rattle.pads_value.specs.Cuts.{Cut}
use Rattle.pads_frame.specs.Placed.{cut_at, size_of}
use Rattle.pads_frame.specs.Extents.{extent}
use Rattle.pads_frame.specs.Cutting.{cuts}

module _ (d : Discipline) (max : ℕ) (ended : Bool) where
  -- what belongs to an earlier frame is dropped
  pub cuts_skip : (at k : ℕ) (xs : List ℕ) → cuts d max ended at k xs ≡ cuts d max ended (at + k) 0 (drop k xs)
  unfolding cuts
  cuts_skip at zero [] = refl
  cuts_skip at (suc k) [] = refl
  cuts_skip at zero (b ∷ xs) = rw add-zero refl
  cuts_skip at (suc k) (b ∷ xs) =
      let e : (at + 1) + k ≡ at + suc k = omega arith in
      cuts_skip (at + 1) k xs ∙ ap (λ (n : ℕ). cuts d max ended n 0 (drop k xs)) e

  cuts_more : (at n : ℕ) (b : ℕ) (xs : List ℕ) → 0 < n → cuts d max ended (at + 1) (n - 1) xs ≡ cuts d max ended (at + n) 0 (drop n (b ∷ xs))
  cuts_more at zero b xs h = absurd (omega arith)
  cuts_more at (suc n) b xs h =
      let e : (at + 1) + (suc n - 1) ≡ at + suc n = omega arith in
      let f : suc n - 1 ≡ n = omega arith in
      cuts_skip (at + 1) (suc n - 1) xs ∙ rw (e, f) refl

  -- a frame that closes is the first, and the others are those of what stands behind it
  pub cuts_step : (at : ℕ) (xs : List ℕ) → 0 < length xs → 0 < size_of (extent d max xs) → ((extent d max xs).closed || ended) ≡ true
      → cuts d max ended at 0 xs ≡ cut_at at xs (extent d max xs) ∷ cuts d max ended (at + size_of (extent d max xs)) 0 (drop (size_of (extent d max xs)) xs)
  unfolding cuts
  cuts_step at [] l s c = absurd (omega arith)
  cuts_step at (b ∷ xs) l s c = rw c (ap (λ (r : List Cut). cut_at at (b ∷ xs) (extent d max (b ∷ xs)) ∷ r) (cuts_more at (size_of (extent d max (b ∷ xs))) b xs s))

  -- where it doesn't close there is none
  pub cuts_open : (at : ℕ) (xs : List ℕ) → ((extent d max xs).closed || ended) ≡ false → cuts d max ended at 0 xs ≡ []
  unfolding cuts
  cuts_open at [] c = refl
  cuts_open at (b ∷ xs) c = rw c refl

  pub cuts_nil : (at k : ℕ) → cuts d max ended at k [] ≡ []
  unfolding cuts
  cuts_nil at k = refl
