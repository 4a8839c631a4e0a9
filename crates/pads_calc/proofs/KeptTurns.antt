-- What the turns of an array keep: each element is what is read behind the separator. What holds of no
-- element, and of one more before others, holds of all that an array keeps.
use Rattle.std.proofs.Common.{◌≡◌, ◌≢◌, ◌∙◌, sym, ap, refl, ℕ, zero, suc, nat_eq, Bool, true, false, not, ◌&&◌, if◌then◌else◌, List, [], ◌∷◌, ◌++◌, Option, None, Some}
use Rattle.std.proofs.lemmas.Bool.{eqb-false}
use Rattle.pads_value.specs.declared.cause.Cause.TheVariants as cause
use Rattle.pads_value.specs.declared.descriptor.Pd.{out-Pd}
use Rattle.pads_value.specs.declared.value.Val.{Val}
use Rattle.pads_expr.specs.Value.{Pairs}
use Rattle.pads_calc.specs.declared.reading.Reading.{Reading}
use Rattle.pads_calc.specs.declared.turn.Ending.{Ending}
use Rattle.pads_calc.specs.declared.turn.Ending.TheVariants as ending
use Rattle.pads_calc.specs.declared.turn.Turn.{Turn}
use Rattle.pads_calc.specs.declared.turn.Turn.TheVariants as turn
use Rattle.pads_calc.specs.Arrays.{SeqReader, Elements, elements, unless_ended, and_then, ending_at, element_at, turn_at, turn_from, is_fail_class, is_empty}
use Rattle.pads_calc.specs.Readings.{Reader, is_ok}

-- where the element of a turn at `j` begins: there, or from the second on behind a clean separator
module _ (env : Pairs) where
  abbrev pub Begins : Option Reader → Bool → ℕ → ℕ → Type 0
  Begins None is_first j begin = begin ≡ j
  Begins (Some sep) true j begin = begin ≡ j
  Begins (Some sep) false j begin = (is_ok (sep env j) ≡ true) × (begin ≡ (sep env j).place)

  begins-by : (r : Reading) (clean : Bool) (begin : ℕ) → (if clean then Some r.place else None) ≡ Some begin → (clean ≡ true) × (begin ≡ r.place)
  begins-by r true begin there = (refl, cc)
  begins-by r false begin there = absurd cc

  pub begins-at : (sep : Option Reader) (is_first : Bool) (j begin : ℕ) → element_at sep is_first env j ≡ Some begin → Begins sep is_first j begin
  begins-at None is_first j begin there = cc
  begins-at (Some sep) true j begin there = cc
  begins-at (Some sep) false j begin there = begins-by (sep env j) (is_ok (sep env j)) begin there

-- an element that a turn at `j` keeps: what is read behind the separator; from the second on the turn takes a byte
pub record KeptAt (s : SeqReader) (env : Pairs) (is_first : Bool) (j : ℕ) (r : Reading) : Type 0 where
  pub begin : ℕ
  pub begins : Begins env s.sep is_first j begin
  pub is : r ≡ s.elem env begin
  pub moves : is_first ≡ false → r.place ≢ j

module _ (s : SeqReader) (env : Pairs) where
  kept-by : (fallen stalled : Bool) (r kept : Reading)
      → (if fallen then turn.Undone cause.ArrayElem else if stalled then turn.Undone cause.ArrayStall else turn.Kept r) ≡ turn.Kept kept → (r ≡ kept) × (stalled ≡ false)
  kept-by true stalled r kept there = absurd cc
  kept-by false true r kept there = absurd cc
  kept-by false false r kept there = (cc, refl)

  moved : (is_first : Bool) (place j : ℕ) → (not is_first && nat_eq place j) ≡ false → is_first ≡ false → place ≢ j
  moved true place j same later = absurd cc
  moved false place j same later = eqb-false place j same

  kept-begun : (is_first : Bool) (j : ℕ) (r : Reading) (begin : Option ℕ) → element_at s.sep is_first env j ≡ begin → turn_at s.elem is_first env j begin ≡ turn.Kept r
      → KeptAt s env is_first j r
  kept-begun is_first j r None there kept = absurd cc
  kept-begun is_first j r (Some begin) there kept =
      let e = s.elem env begin in
      let found = kept-by (is_fail_class (out-Pd e.pd).class && nat_eq e.place begin) (not is_first && nat_eq e.place j) e r kept in
      record {
        begin = begin;
        begins = begins-at env s.sep is_first j begin there;
        is = sym found.0;
        moves = λ later. (let ne = moved is_first e.place j found.1 later in λ same. ne (ap (λ (r : Reading). r.place) found.0 ∙ same));
      }

  pub kept-at : (is_first : Bool) (j : ℕ) (r : Reading) → turn_from s is_first env j ≡ turn.Kept r → KeptAt s env is_first j r
  unfolding turn_from
  kept-at is_first j r kept = kept-begun is_first j r (element_at s.sep is_first env j) refl kept

module _ (bytes : List ℕ) (s : SeqReader) (size : Option ℕ) (env : Pairs) (Holds : ℕ → List Reading → Type 0)
    (none : (j : ℕ) → Holds j [])
    (one : (is_first : Bool) (j : ℕ) (r : Reading) (rest : List Reading) → KeptAt s env is_first j r → Holds r.place rest → Holds j (r ∷ rest)) where
  each-by : (is_first : Bool) (j : ℕ) (e : Ending) (t : Turn) (more : Reading → Elements) → turn_from s is_first env j ≡ t → ((r : Reading) → Holds r.place (more r).rest)
      → Holds j (unless_ended e (and_then t more)).rest
  each-by is_first j (ending.Ends own) t more turned later = none j
  each-by is_first j ending.GoesOn (turn.Undone cause) more turned later = none j
  each-by is_first j ending.GoesOn (turn.Kept r) more turned later = one is_first j r (more r).rest (kept-at s env is_first j r turned) (later r)

  pub each-turn : (turns : ℕ) (before : List Val) (j : ℕ) → Holds j (elements bytes s size env turns before j).rest
  unfolding elements
  each-turn zero before j = none j
  each-turn (suc turns) before j =
      each-by (is_empty before) j (ending_at bytes s size before env j) (turn_from s (is_empty before) env j)
      (λ r. elements bytes s size env turns (before ++ r.value ∷ []) r.place) refl (λ r. each-turn turns (before ++ r.value ∷ []) r.place)
