-- The first frame of an input, and an input that has one frame, none or more.
use Rattle.std.proofs.Common.{◌≡◌, ℕ, ◌+◌, ◌<◌, ◌≤◌, true, false, None, List, [], ◌∷◌, length, drop, sym, refl, ◌⊎◌, inl, inr, ap, ◌∙◌, arith}
use Rattle.std.proofs.lemmas.Bool.{or_right, ltb-false, true≢false}
use Rattle.std.proofs.lemmas.List.{length-drop, nil_from_length}
use Rattle.pads_value.specs.Cuts.{Cut}
use Rattle.pads_frame.specs.declared.discipline.Discipline.{Discipline}
use Rattle.pads_frame.specs.declared.discipline.Extent.{Extent}
use Rattle.pads_frame.specs.Cutting.{cuts, records}
use Rattle.pads_frame.specs.Extents.{extent}
use Rattle.pads_frame.specs.Fits.{FitsLimit}
use Rattle.pads_frame.specs.declared.look.Look.{Look}
use Rattle.pads_frame.specs.declared.look.Look.TheVariants.{Found, Pass, Wait}
use Rattle.pads_frame.specs.Looks.{Finds, LookGives}
use Rattle.pads_frame.specs.OnlyFrame.{only}
use Rattle.pads_frame.specs.Placed.{cut_at, size_of}
use Rattle.pads_frame.specs.State.{closes_in, text}
use Rattle.pads_frame.proofs.CuttingLemmas.{cuts_nil, cuts_step}
use Rattle.pads_frame.proofs.ExtentLemmas.{extent_takes, extent_within}
use Rattle.pads_frame.proofs.Owing.{cuts_step_as}
use Rattle.pads_frame.proofs.Taking.{closes_nonempty, has_block}
use Rattle.pads_frame.proofs.TextLemmas.{text_none}

module _ (d : Discipline) (max : ℕ) (fits : FitsLimit d max) where
  is_extent : (xs : List ℕ) (e : Extent) → Finds d max 0 xs true e → extent d max xs ≡ e
  is_extent xs e found = ap (extent d max) (sym (text_none d xs)) ∙ sym found.lies

  some_there : (xs : List ℕ) (e : Extent) → Finds d max 0 xs true e → 0 < length xs
  some_there xs e found =
      let c : closes_in d max xs true ≡ true = rw (text_none d xs) at found.closes in
      closes_nonempty d max xs true (has_block d max fits) c

  -- it takes up a byte
  pub takes_some : (xs : List ℕ) (e : Extent) → Finds d max 0 xs true e → 0 < size_of e
  takes_some xs e found = rw (is_extent xs e found) at (extent_takes d max xs (has_block d max fits) (some_there xs e found))

  -- the first frame, and those of the bytes behind it
  pub first_and_rest : (at : ℕ) (xs : List ℕ) (e : Extent) → Finds d max 0 xs true e → cuts d max true at 0 xs ≡ cut_at at xs e ∷ cuts d max true (at + size_of e) 0 (drop (size_of e) xs)
  first_and_rest at xs e found =
      cuts_step_as d max at true xs e (is_extent xs e found) (some_there xs e found) (takes_some xs e found) (or_right e.closed true refl)

  -- nothing is found where there are no bytes, since the input has ended
  pub none_found : (xs : List ℕ) (r : Look) → LookGives d max 0 xs true r → (r ≡ Pass) ⊎ (r ≡ Wait) → xs ≡ []
  none_found xs (Found e) gives is = absurd (elim is [ inl p ↦ cc | inr w ↦ cc ])
  none_found xs Pass gives is = absurd (true≢false gives.goes_on)
  none_found xs Wait gives is =
      let none_closes : closes_in d max xs true ≡ false = rw (text_none d xs) at gives.0 in
      let l = ltb-false 0 (length xs) none_closes in
      nil_from_length xs (omega arith)

  -- nothing stands behind the first frame
  pub one_alone : (frame : Cut) (at size : ℕ) (xs : List ℕ) → length xs ≤ size → frame ∷ cuts d max true at 0 (drop size xs) ≡ frame ∷ []
  one_alone frame at size xs l =
      let n = length-drop size xs in
      let none : drop size xs ≡ [] = nil_from_length (drop size xs) (omega arith) in
      rw (none, cuts_nil d max true at 0) refl

  -- behind a frame begins another
  more_than_one : (frame : Cut) (at : ℕ) (xs : List ℕ) → 0 < length xs → only (frame ∷ cuts d max true at 0 xs) ≡ None
  more_than_one frame at xs l =
      rw (cuts_step d max true at xs l (extent_takes d max xs (has_block d max fits) l) (or_right (extent d max xs).closed true refl)) refl

  pub not_alone : (frame : Cut) (at size : ℕ) (xs : List ℕ) → size < length xs → only (frame ∷ cuts d max true at 0 (drop size xs)) ≡ None
  not_alone frame at size xs l =
      let n = length-drop size xs in
      more_than_one frame at (drop size xs) (omega arith)

  -- no bytes have no frame
  pub none_at_all : (xs : List ℕ) → xs ≡ [] → only (records d max xs) ≡ None
  none_at_all xs none = rw (none, cuts_nil d max true 0 0) refl
