-- The elements of an array: what is kept of those so far, and what the rest adds.
use Rattle.std.proofs.Common.{◌≡◌, ℕ, suc, ◌-◌, ◌<◌, ◌∙◌, List, [], ◌∷◌, ◌++◌, length, Option, None, Some, refl, ap, subst, arith, length-append}
use Rattle.pads_value.specs.declared.cause.Cause.{Cause}
use Rattle.pads_value.specs.declared.cause.Cause.TheVariants as cause
use Rattle.pads_value.specs.declared.descriptor.Pd.{Pd}
use Rattle.pads_value.specs.declared.value.Val.{Val}
use Rattle.pads_value.specs.declared.value.Val.TheVariants as val
use Rattle.pads_expr.specs.Value.{Pairs}
use Rattle.pads_calc.specs.declared.reading.Reading.{Reading}
use Rattle.pads_calc.specs.declared.turn.Ending.TheVariants as ending
use Rattle.pads_calc.specs.declared.turn.Turn.TheVariants as turn
use Rattle.pads_calc.specs.Arrays.{SeqReader, Elements, elements, no_more, unless_ended, and_then, ending_at, turn_from, is_empty, array_of, soft, turns_from, size_at, seq_of}
use Rattle.pads_calc.specs.Readings.{Subject, node, fails}
use Rattle.pads_calc.proofs.Runs.{Follows, follows-start, follows-push, append-none}
use Rattle.pads_calc.proofs.Turns.{elements-next}

-- the array is what is kept, up to `place`, and then `rest`
pub record Gathers (whole : Elements) (i : ℕ) (kept : List Val) (kids : List Pd) (place : ℕ) (rest : Elements) : Type 0 where
  pub own_is : whole.own ≡ rest.own
  pub follows : Follows whole.rest i kept kids place rest.rest

gathers-none : (origin : ℕ) (whole : Elements) (i : ℕ) (kept : List Val) (kids : List Pd) (place : ℕ) (own : Option Cause) →
    Gathers whole i kept kids place (no_more own) → array_of origin whole i ≡ node origin (soft own) (val.Array kept) i place kids
gathers-none origin whole i kept kids place own h =
    rw (h.own_is, h.follows.values_are, h.follows.pds_are, h.follows.end_is, append-none kept, append-none kids) refl

module _ (bytes : List ℕ) (s : SeqReader) (size : Option ℕ) (env : Pairs) (whole : Elements) (i : ℕ) where
  -- so many turns are left
  abbrev pub left : List Val → ℕ
  left kept = turns_from bytes i - length kept

  abbrev pub Kept : List Val → List Pd → ℕ → Type 0
  Kept kept kids place = Gathers whole i kept kids place (elements bytes s size env (left kept) kept place)

  one_more : (kept : List Val) (kids : List Pd) (place : ℕ) → length kept < turns_from bytes i → Kept kept kids place →
      Gathers whole i kept kids place (unless_ended (ending_at bytes s size kept env place)
      (and_then (turn_from s (is_empty kept) env place) (λ r. elements bytes s size env (left kept - 1) (kept ++ r.value ∷ []) r.place)))
  one_more kept kids place some h =
      let turns : left kept ≡ suc (left kept - 1) = omega arith in
      let next : elements bytes s size env (left kept) kept place ≡ _ =
      ap (λ n. elements bytes s size env n kept place) turns ∙ elements-next bytes s size env (left kept - 1) kept place in
      let P : Elements → Type 0 = Gathers whole i kept kids place in
      subst P next h

  pub gathers-ended : (origin : ℕ) (kept : List Val) (kids : List Pd) (place : ℕ) (own : Option Cause) → length kept < turns_from bytes i → Kept kept kids place →
      ending_at bytes s size kept env place ≡ ending.Ends own → array_of origin whole i ≡ node origin (soft own) (val.Array kept) i place kids
  gathers-ended origin kept kids place own some h ended =
      gathers-none origin whole i kept kids place own (rw ended at (one_more kept kids place some h))

  pub gathers-undone : (origin : ℕ) (kept : List Val) (kids : List Pd) (place : ℕ) (cause : Cause) → length kept < turns_from bytes i → Kept kept kids place →
      ending_at bytes s size kept env place ≡ ending.GoesOn → turn_from s (is_empty kept) env place ≡ turn.Undone cause →
      array_of origin whole i ≡ node origin (soft (Some cause)) (val.Array kept) i place kids
  gathers-undone origin kept kids place cause some h on undone =
      gathers-none origin whole i kept kids place (Some cause) (rw (on, undone) at (one_more kept kids place some h))

  pub gathers-kept : (kept : List Val) (kids : List Pd) (place : ℕ) (r : Reading) → length kept < turns_from bytes i → Kept kept kids place →
      ending_at bytes s size kept env place ≡ ending.GoesOn → turn_from s (is_empty kept) env place ≡ turn.Kept r →
      Kept (kept ++ r.value ∷ []) (kids ++ r.pd ∷ []) r.place
  gathers-kept kept kids place r some h on more =
      let more_turns : left kept - 1 ≡ left (kept ++ r.value ∷ []) = omega (arith, length-append kept (r.value ∷ [])) in
      let next = rw (on, more) at (one_more kept kids place some h) in
      rw (← more_turns) (record {
        own_is = next.own_is;
        follows = follows-push whole.rest i kept kids place r _ next.follows;
      })

pub gathers-start : (bytes : List ℕ) (s : SeqReader) (size : Option ℕ) (env : Pairs) (i : ℕ) →
    Kept bytes s size env (elements bytes s size env (turns_from bytes i) [] i) i [] [] i
gathers-start bytes s size env i =
    let all : turns_from bytes i - 0 ≡ turns_from bytes i = omega arith in
    rw all (record { own_is = refl; follows = follows-start _ i })

pub seq-unsized : (subject : Subject) (s : SeqReader) (env : Pairs) (i : ℕ) → size_at s.size env ≡ None → seq_of subject s env i ≡ fails subject.origin cause.ArrayBound i
seq-unsized subject s env i none = rw none refl

pub seq-sized : (subject : Subject) (s : SeqReader) (env : Pairs) (i : ℕ) (size : Option ℕ) → size_at s.size env ≡ Some size →
    seq_of subject s env i ≡ array_of subject.origin (elements subject.bytes s size env (turns_from subject.bytes i) [] i) i
seq-sized subject s env i size there = rw there refl
