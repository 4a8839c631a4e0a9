-- No frame carries more bytes than the limit, and a batch has little more than it may have.
use Rattle.std.proofs.Common.{◌≡◌, ℕ, zero, suc, ◌+◌, ◌-◌, ◌≤◌, Bool, true, false, ◌||◌, if◌then◌else◌, leb, List, [], ◌∷◌, ◌++◌, length, drop, sym, ap, subst, ◌∙◌, inl, inr, append_assoc, arith}
use Rattle.std.proofs.lemmas.Bool.{cases_Bool, leb-true, leb-false}
use Rattle.std.proofs.lemmas.List.{length-append, length-take}
use Rattle.pads_value.specs.Cuts.{Cut}
use Rattle.pads_value.specs.Marks.{bytes_of}
use Rattle.pads_frame.specs.declared.discipline.Discipline.{Discipline}
use Rattle.pads_frame.specs.declared.discipline.Discipline.TheVariants.{Term, Fixed, Rdw, Whole}
use Rattle.pads_frame.specs.Cutting.{cuts, records}
use Rattle.pads_frame.specs.Extents.{extent, has_record, mark_of, run, word_length}
use Rattle.pads_frame.specs.Fits.{FitsLimit}
use Rattle.pads_frame.specs.Placed.{cut_at, size_of}
use Rattle.pads_frame.proofs.ExtentLemmas.{rdw_broken, rdw_record}
use Rattle.pads_frame.proofs.Owing.{long_mark}
use Rattle.pads_drive.specs.Ahead.{IsBatch, spread, weight}

carried_mark : (max n : ℕ) → bytes_of (mark_of max n) n ≤ max
carried_mark max n = elim (cases_Bool (leb n max)) [
  | inl l ↦ rw l (leb-true n max l)
  | inr l ↦ rw (long_mark max n (leb-false n max l)) (omega arith)
]

carried : (d : Discipline) (max : ℕ) (xs : List ℕ) → FitsLimit d max → bytes_of (extent d max xs).mark (extent d max xs).len ≤ max
carried (Term t) max xs fits = carried_mark max (run t xs)
carried (Fixed n) max xs fits = elim (cases_Bool (leb n (length xs))) [ inl l ↦ rw l (omega (arith, fits.1)) | inr l ↦ rw l (omega (arith, fits.1)) ]
carried Rdw max xs fits = elim (cases_Bool (has_record xs)) [
  | inl h ↦ rw (rdw_record max xs h) (carried_mark max (word_length xs - 4))
  | inr h ↦ rw (rdw_broken max xs h) (omega arith)
]
carried Whole max xs fits = carried_mark max (length xs)

-- Each of these frames carries at most so many bytes.
abbrev pub Small : ℕ → List Cut → Type 0
Small max [] = Unit {0}
Small max (frame ∷ frames) = (length frame.bytes ≤ max) × Small max frames

module _ (d : Discipline) (max : ℕ) (fits : FitsLimit d max) where
  small_cut : (at : ℕ) (xs : List ℕ) → length (cut_at at xs (extent d max xs)).bytes ≤ max
  small_cut at xs =
      let e = extent d max xs in
      omega (arith, carried d max xs fits, length-take (bytes_of e.mark e.len) (drop e.lead xs))

  small_step : (at b : ℕ) (xs : List ℕ) → Small max (cuts d max true (at + 1) (size_of (extent d max (b ∷ xs)) - 1) xs) → Small max (cuts d max true at 0 (b ∷ xs))
  unfolding cuts
  small_step at b xs h = go (extent d max (b ∷ xs)).closed
    where
      go : (c : Bool) → Small max (if c || true then cut_at at (b ∷ xs) (extent d max (b ∷ xs)) ∷ cuts d max true (at + 1) (size_of (extent d max (b ∷ xs)) - 1) xs else [])
      go true = (small_cut at (b ∷ xs), h)
      go false = (small_cut at (b ∷ xs), h)

  all_small : (at skip : ℕ) (xs : List ℕ) → Small max (cuts d max true at skip xs)
  unfolding cuts
  all_small at skip [] = tt
  all_small at (suc skip) (b ∷ xs) = all_small (at + 1) skip xs
  all_small at zero (b ∷ xs) = small_step at b xs (all_small (at + 1) (size_of (extent d max (b ∷ xs)) - 1) xs)

small_at : (max : ℕ) (before : List Cut) (frame : Cut) (behind : List Cut) → Small max (before ++ frame ∷ behind) → length frame.bytes ≤ max
small_at max [] frame behind h = h.0
small_at max (x ∷ before) frame behind h = small_at max before frame behind h.1

weight-last : (front : List Cut) (last : Cut) → weight (front ++ last ∷ []) ≡ weight front + length last.bytes
weight-last [] last = omega arith
weight-last (x ∷ front) last = let i = weight-last front last in omega (arith, i)

-- A batch of frames of an input takes up little more than a batch may have.
pub batch_small : (d : Discipline) (max : ℕ) (input : List ℕ) (done hand others : List Cut) → FitsLimit d max → records d max input ≡ done ++ hand ++ others → IsBatch hand
    → spread hand ≤ max + 4227072
batch_small d max input done hand others fits e (inl none) = rw none (omega arith)
batch_small d max input done hand others fits e (inr full) =
    let apart : done ++ hand ++ others ≡ (done ++ full.front) ++ full.last ∷ others =
    ap (λ l. done ++ l ++ others) full.whole ∙ append_assoc done (full.front ++ full.last ∷ []) others
    ∙ ap (λ l. done ++ l) (append_assoc full.front (full.last ∷ []) others) ∙ sym (append_assoc done full.front (full.last ∷ others)) in
    let small = small_at max (done ++ full.front) full.last others (subst (Small max) (e ∙ apart) (all_small d max fits 0 0 input)) in
    let count = length-append full.front (full.last ∷ []) in
    rw full.whole (omega (arith, small, full.few, full.light, weight-last full.front full.last, count))
