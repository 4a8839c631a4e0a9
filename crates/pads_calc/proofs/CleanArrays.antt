-- What a clean array tells: its size, each of its turns, and at most as many elements as the size.
use Rattle.std.proofs.Common.{◌≡◌, ◌∙◌, sym, ap, refl, arith, ℕ, zero, suc, ◌+◌, ◌<◌, ◌≤◌, Bool, true, false, List, [], ◌∷◌, ◌++◌, length, Option, None, Some, length-append}
use Rattle.std.specs.Prelude.{⊤}
use Rattle.std.proofs.lemmas.Bool.{and_parts, leb-false}
use Rattle.pads_value.specs.Header.{all_clean, is_clean}
use Rattle.pads_value.specs.declared.cause.Cause.{Cause}
use Rattle.pads_value.specs.declared.cause.Cause.TheVariants as cause
use Rattle.pads_value.specs.declared.value.Val.{Val}
use Rattle.pads_value.specs.declared.value.Val.TheVariants as val
use Rattle.pads_expr.specs.Value.{Pairs}
use Rattle.pads_calc.specs.declared.reading.Reading.{Reading}
use Rattle.pads_calc.specs.declared.turn.Ending.{Ending}
use Rattle.pads_calc.specs.declared.turn.Ending.TheVariants as ending
use Rattle.pads_calc.specs.declared.turn.Turn.{Turn}
use Rattle.pads_calc.specs.declared.turn.Turn.TheVariants as turn
use Rattle.pads_calc.specs.Arrays.{SeqReader, Elements, elements, unless_ended, and_then, ending_at, ending_by, turn_from, is_empty, is_full, is_last, is_stopped, soft, turns_from, size_at, sized, seq_of}
use Rattle.pads_calc.specs.Leaves.{at_end}
use Rattle.pads_calc.specs.Readings.{Subject, node, is_ok, values, pds, end_of}
use Rattle.pads_calc.proofs.CleanNodes.{clean-own, fails-unclean}
use Rattle.pads_calc.proofs.KeptTurns.{KeptAt, kept-at}

-- no ending holds before a turn
pub record GoesOn (bytes : List ℕ) (s : SeqReader) (size : Option ℕ) (before : List Val) (env : Pairs) (j : ℕ) : Type 0 where
  pub unfilled : is_full size (length before) ≡ false
  pub unlast : is_last s.last s.elts before env ≡ false
  pub unstopped : is_stopped s.stop env j ≡ false
  pub unended : at_end bytes j ≡ false

goes-by : (full last stopped over : Bool) (size : Option ℕ) → ending_by full last stopped over size ≡ ending.GoesOn
    → (full ≡ false) × (last ≡ false) × (stopped ≡ false) × (over ≡ false)
goes-by true last stopped over size on = absurd cc
goes-by false true stopped over size on = absurd cc
goes-by false false true over size on = absurd cc
goes-by false false false true size on = absurd cc
goes-by false false false false size on = (refl, refl, refl, refl)

pub goes-on : (bytes : List ℕ) (s : SeqReader) (size : Option ℕ) (before : List Val) (env : Pairs) (j : ℕ) → ending_at bytes s size before env j ≡ ending.GoesOn
    → GoesOn bytes s size before env j
unfolding ending_at
goes-on bytes s size before env j on =
    let all = goes-by (is_full size (length before)) (is_last s.last s.elts before env) (is_stopped s.stop env j) (at_end bytes j) size on in
    record { unfilled = all.0; unlast = all.1; unstopped = all.2; unended = all.3 }

module _ (bytes : List ℕ) (s : SeqReader) (size : Option ℕ) (env : Pairs) where
  -- clean elements from `j` on, behind those that there are, in at most so many turns: each turn is kept where
  -- no ending holds, and where turns are left, the array ends without a fault of its own
  abbrev pub CleanTurns : ℕ → List Val → ℕ → List Reading → Type 0
  CleanTurns zero before j [] = ⊤
  CleanTurns (suc turns) before j [] = ending_at bytes s size before env j ≡ ending.Ends None
  CleanTurns zero before j (r ∷ rest) = ⊥
  CleanTurns (suc turns) before j (r ∷ rest) =
      GoesOn bytes s size before env j × KeptAt s env (is_empty before) j r × (is_ok r ≡ true) × CleanTurns turns (before ++ r.value ∷ []) r.place rest

  turns-by : (turns : ℕ) (before : List Val) (j : ℕ) (e : Ending) (t : Turn) (more : Reading → Elements)
      → ending_at bytes s size before env j ≡ e → turn_from s (is_empty before) env j ≡ t
      → ((r : Reading) → (more r).own ≡ None → all_clean (pds (more r).rest) ≡ true → CleanTurns turns (before ++ r.value ∷ []) r.place (more r).rest)
      → (unless_ended e (and_then t more)).own ≡ None → all_clean (pds (unless_ended e (and_then t more)).rest) ≡ true
      → CleanTurns (suc turns) before j (unless_ended e (and_then t more)).rest
  turns-by turns before j (ending.Ends own) t more ended turned later none clean = ended ∙ ap ending.Ends none
  turns-by turns before j ending.GoesOn (turn.Undone cause) more ended turned later none clean = absurd cc
  turns-by turns before j ending.GoesOn (turn.Kept r) more ended turned later none clean =
      let both = and_parts (is_clean r.pd) (all_clean (pds (more r).rest)) clean in
      (goes-on bytes s size before env j ended, kept-at s env (is_empty before) j r turned, both.0, later r none both.1)

  pub clean-elements : (turns : ℕ) (before : List Val) (j : ℕ) → (elements bytes s size env turns before j).own ≡ None
      → all_clean (pds (elements bytes s size env turns before j).rest) ≡ true → CleanTurns turns before j (elements bytes s size env turns before j).rest
  unfolding elements
  clean-elements zero before j none clean = tt
  clean-elements (suc turns) before j none clean =
      turns-by turns before j (ending_at bytes s size before env j) (turn_from s (is_empty before) env j)
      (λ r. elements bytes s size env turns (before ++ r.value ∷ []) r.place) refl refl
      (λ r none clean. clean-elements turns (before ++ r.value ∷ []) r.place none clean) none clean

  -- at most as many elements as the size
  unfilled-below : (most count : ℕ) → size ≡ Some most → is_full size count ≡ false → count < most
  unfilled-below most count sized unfilled =
      leb-false most count (ap (λ size. is_full size count) (sym sized) ∙ unfilled)

  fits-from : (most : ℕ) → size ≡ Some most → (turns : ℕ) (before : List Val) (j : ℕ) (rest : List Reading) → length before ≤ most → CleanTurns turns before j rest
      → length before + length rest ≤ most
  fits-from most sized turns before j [] fits h = omega (arith, fits)
  fits-from most sized zero before j (r ∷ rest) fits h = absurd h
  fits-from most sized (suc turns) before j (r ∷ rest) fits h =
      let below = unfilled-below most (length before) sized h.0.unfilled in
      omega (
        arith,
        length-append before (r.value ∷ []),
        below,
        fits-from most sized turns (before ++ r.value ∷ []) r.place rest (omega (arith, below, length-append before (r.value ∷ []))) h.3,
      )

  pub clean-fits : (most : ℕ) → size ≡ Some most → (turns : ℕ) (j : ℕ) (rest : List Reading) → CleanTurns turns [] j rest → length rest ≤ most
  clean-fits most sized turns j rest h = omega (arith, fits-from most sized turns [] j rest (omega arith) h)

-- a clean array: its size is one, and its readings are those of clean turns
pub record CleanSeq (subject : Subject) (s : SeqReader) (env : Pairs) (i : ℕ) : Type 0 where
  pub size : Option ℕ
  pub readings : List Reading
  pub sized_by : size_at s.size env ≡ Some size
  pub turns : CleanTurns subject.bytes s size env (turns_from subject.bytes i) [] i readings
  pub is : seq_of subject s env i ≡ node subject.origin None (val.Array (values readings)) i (end_of i readings) (pds readings)

none-soft : (own : Option Cause) → soft own ≡ None → own ≡ None
none-soft None none = refl
none-soft (Some cause) none = absurd cc

clean-sized : (subject : Subject) (s : SeqReader) (env : Pairs) (i : ℕ) (size : Option (Option ℕ)) → size_at s.size env ≡ size
    → is_ok (sized subject s size env i) ≡ true → CleanSeq subject s env i
clean-sized subject s env i None there ok = let bad = fails-unclean subject.origin cause.ArrayBound i in absurd cc
clean-sized subject s env i (Some size) there ok =
    let e = elements subject.bytes s size env (turns_from subject.bytes i) [] i in
    let clean = clean-own subject.origin (soft e.own) (val.Array (values e.rest)) i (end_of i e.rest) (pds e.rest) ok in
    record {
      size = size;
      readings = e.rest;
      sized_by = there;
      turns = clean-elements subject.bytes s size env (turns_from subject.bytes i) [] i (none-soft e.own clean.0) clean.1;
      is = ap (λ found. sized subject s found env i) there ∙ ap (λ own. node subject.origin own (val.Array (values e.rest)) i (end_of i e.rest) (pds e.rest)) clean.0;
    }

pub clean-seq : (subject : Subject) (s : SeqReader) (env : Pairs) (i : ℕ) → is_ok (seq_of subject s env i) ≡ true → CleanSeq subject s env i
clean-seq subject s env i ok = clean-sized subject s env i (size_at s.size env) refl ok
