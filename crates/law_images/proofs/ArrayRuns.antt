-- The code of an array runs as the array reads, where its element, its terminator and its separator do.
use Rattle.std.proofs.Common.{◌≡◌, ap, refl, subst, arith, eq-eqb, cond, Bool, ℕ, zero, suc, ◌+◌, ◌≤◌, List, [], ◌∷◌, ◌++◌, length, append_assoc, Option, Some, None}
use Rattle.pads_value.specs.declared.cause.Cause.{Cause}
use Rattle.pads_value.specs.declared.cause.Cause.TheVariants as cause
use Rattle.pads_value.specs.declared.descriptor.Pd.{Pd}
use Rattle.pads_value.specs.declared.value.Val.{Val}
use Rattle.pads_value.specs.declared.value.Val.TheVariants as val
use Rattle.pads_calc.specs.declared.reading.Reading.{Reading}
use Rattle.pads_calc.specs.declared.term.Seq.{Seq}
use Rattle.pads_calc.specs.declared.term.Term.{Term}
use Rattle.pads_calc.specs.declared.turn.Ending.{Ending}
use Rattle.pads_calc.specs.declared.turn.Ending.TheVariants as ending
use Rattle.pads_calc.specs.declared.turn.Turn.{Turn}
use Rattle.pads_calc.specs.declared.turn.Turn.TheVariants as turn
use Rattle.pads_calc.specs.Arrays.{SeqReader, Elements, elements, no_more, unless_ended, and_then, ending_at, turn_from, is_empty, array_of, soft, turns_from, size_at, sized, seq_of}
use Rattle.pads_calc.specs.Calculus.{Caller, read, seq_reader}
use Rattle.pads_calc.specs.Leaves.{unit_of}
use Rattle.pads_calc.specs.Places.{TurnsWithin}
use Rattle.pads_calc.specs.Readings.{Subject, node, fails, values, pds, end_of}
use Rattle.pads_calc.proofs.Induction.{InSeq}
use Rattle.pads_calc.proofs.Runs.{append-none}
use Rattle.pads_calc.proofs.Turns.{elements-next}
use Rattle.law_calculus.proofs.SoundReadings.{SoundReader}
use Rattle.pads_image.specs.declared.entry.Entry.{Entry}
use Rattle.pads_image.specs.declared.op.Op.{Op}
use Rattle.pads_image.specs.declared.op.Op.TheVariants as op
use Rattle.pads_image.specs.Blocks.{layout, seq_layout}
use Rattle.pads_image.specs.Heights.{Deeper}
use Rattle.pads_image.specs.States.{State, seen}
use Rattle.pads_image.specs.Steps.{Goes, Stuck, does}
use Rattle.law_images.proofs.ArrayCode.{laid}
use Rattle.law_images.proofs.ArrayEndings.{Ends_as, ends}
use Rattle.law_images.proofs.ArrayStates.{Array, Given, reader, To_in, Reached, full, edge, shut, env, holds, running, steps, and-then}
use Rattle.law_images.proofs.ArrayTurns.{Turns_as, turns}
use Rattle.law_images.proofs.Reaching.{To, join, to-same}
use Rattle.law_images.proofs.Running.{Ready, RunsAs, behind}

-- how many turns there may be beyond the bytes that are left
abbrev room : List Val → ℕ
room [] = 2
room (v ∷ vs) = 1

room-some : (vs : List Val) → 1 ≤ room vs
room-some [] = omega arith
room-some (v ∷ vs) = omega arith

room-more : (vs : List Val) (v : Val) → room (vs ++ v ∷ []) ≡ 1
room-more [] v = refl
room-more (w ∷ vs) v = refl

-- the place after a turn that is kept: there is room for those that are left
room-left : (bytes : List ℕ) (turns : ℕ) (vs : List Val) (j : ℕ) (r : Reading) → length bytes + room vs ≤ suc turns + j → TurnsWithin bytes (is_empty vs) j (turn.Kept r)
    → length bytes + room (vs ++ r.value ∷ []) ≤ turns + r.place
room-left bytes turns [] j r enough within = omega (arith, enough, within.0.0)
room-left bytes turns (v ∷ vs) j r enough within = omega (arith, enough, within.1 refl)

module _ (a : Array) (g : Given a) where
  abbrev at_full : List Val → List Pd → Reading → State
  at_full vs ks r = running a (full a) r (holds a vs ks None) a.start.marks

  -- up to Shut, with all elements
  abbrev Loops_as : State → List Val → List Pd → ℕ → Elements → Type 0
  Loops_as s vs ks j e = Reached a s (shut a) (holds a (vs ++ values e.rest) (ks ++ pds e.rest) e.own) a.start.marks (end_of j e.rest)

  no-more : (s : State) (vs : List Val) (ks : List Pd) (j : ℕ) (own : Option Cause) → Reached a s (shut a) (holds a vs ks own) a.start.marks j → Loops_as s vs ks j (no_more own)
  no-more s vs ks j own got = rw (append-none vs, append-none ks) got

  one-more : (s : State) (vs : List Val) (ks : List Pd) (j : ℕ) (r : Reading) (later : Elements) → Loops_as s (vs ++ r.value ∷ []) (ks ++ r.pd ∷ []) r.place later
      → Loops_as s vs ks j (record { own = later.own; rest = r ∷ later.rest })
  one-more s vs ks j r later got = rw (← append_assoc vs (r.value ∷ []) (values later.rest), ← append_assoc ks (r.pd ∷ []) (pds later.rest)) got

  -- a turn, and what comes of it
  by-turn : (s : State) (vs : List Val) (ks : List Pd) (j : ℕ) (t : Turn) (more : Reading → Elements) → Turns_as a g vs ks s j t
      → ((r : Reading) → TurnsWithin a.subject.bytes (is_empty vs) j (turn.Kept r)
      → Loops_as (at_full (vs ++ r.value ∷ []) (ks ++ r.pd ∷ []) (unit_of a.subject.origin r.place)) (vs ++ r.value ∷ []) (ks ++ r.pd ∷ []) r.place (more r))
      → Loops_as s vs ks j (and_then t more)
  by-turn s vs ks j (turn.Undone cause) more got later = no-more s vs ks j (Some cause) got
  by-turn s vs ks j (turn.Kept r) more got later =
      let vs' = vs ++ r.value ∷ [] in
      let ks' = ks ++ r.pd ∷ [] in
      let e = more r in
      one-more s vs ks j r e
      (and-then a g s (at_full vs' ks' (unit_of a.subject.origin r.place)) (shut a) (holds a (vs' ++ values e.rest) (ks' ++ pds e.rest) e.own) a.start.marks (end_of r.place e.rest) got.run
      (later r got.within))

  by-ending : (s : State) (vs : List Val) (ks : List Pd) (j : ℕ) (e : Ending) (more : Elements) → Ends_as a g vs ks s j e
      → (Reached a s (edge a + 1) (holds a vs ks None) a.start.marks j → Loops_as s vs ks j more) → Loops_as s vs ks j (unless_ended e more)
  by-ending s vs ks j (ending.Ends own) more got later = no-more s vs ks j own got
  by-ending s vs ks j ending.GoesOn more got later = later got

  loop : (count : ℕ) (vs : List Val) (ks : List Pd) (r : Reading) → r.place ≤ length a.subject.bytes → length a.subject.bytes + room vs ≤ count + r.place
      → Loops_as (at_full vs ks r) vs ks r.place (elements a.subject.bytes (reader a) a.size (env a) count vs r.place)
  loop zero vs ks r within enough = absurd (omega (arith, within, enough, room-some vs))
  loop (suc count) vs ks r within enough =
      let s = at_full vs ks r in
      let more = λ (r : Reading). elements a.subject.bytes (reader a) a.size (env a) count (vs ++ r.value ∷ []) r.place in
      let t = turn_from (reader a) (is_empty vs) (env a) r.place in
      rw (elements-next a.subject.bytes (reader a) a.size (env a) count vs r.place)
      (by-ending s vs ks r.place (ending_at a.subject.bytes (reader a) a.size vs (env a) r.place) (and_then t more) (ends a g vs ks r within) (λ got.
      let u = running a (edge a + 1) got.last (holds a vs ks None) a.start.marks in
      let inside : got.last.place ≤ length a.subject.bytes = omega (arith, got.place, within) in
      let next : Turns_as a g vs ks u r.place t =
      subst (λ (j : ℕ). Turns_as a g vs ks u j (turn_from (reader a) (is_empty vs) (env a) j)) got.place (turns a g vs ks got.last inside) in
      let e = and_then t more in
      and-then a g s u (shut a) (holds a (vs ++ values e.rest) (ks ++ pds e.rest) e.own) a.start.marks (end_of r.place e.rest) got.run
      (by-turn u vs ks r.place t more next (λ r' kept.
      loop count (vs ++ r'.value ∷ []) (ks ++ r'.pd ∷ []) (unit_of a.subject.origin r'.place) (kept.0.1) (room-left a.subject.bytes count vs r.place r' enough kept)))))

  -- from Shut on, behind the whole array
  shuts : (e : Elements) → Reached a (at_full [] [] a.start.last) (shut a) (holds a (values e.rest) (pds e.rest) e.own) a.start.marks (end_of a.start.last.place e.rest)
      → To_in a (at_full [] [] a.start.last) (behind a.start (shut a + 1) (array_of a.subject.origin e a.start.last.place))
  shuts e got =
      let s = at_full [] [] a.start.last in
      let i = a.start.last.place in
      let t = running a (shut a) got.last (holds a (values e.rest) (pds e.rest) e.own) a.start.marks in
      let made = λ (end : ℕ). behind a.start (shut a + 1) (node a.subject.origin (soft e.own) (val.Array (values e.rest)) i end (pds e.rest)) in
      to-same a.code a.of_entries a.subject a.most s (made got.last.place) (made (end_of i e.rest)) (ap made got.place)
      (join a.code a.of_entries a.subject a.most s t (made got.last.place) got.run
      (steps a g t (made got.last.place) (shut a) (a.height + 1) op.Shut g.laid.end refl (omega arith) (omega (arith, g.counted))
      (ap (λ (own : Bool). cond own (Goes (made got.last.place)) Stuck) (eq-eqb (length a.start.bindings) (length a.start.bindings) refl))))

  pub array-runs : To_in a (at_full [] [] a.start.last)
      (behind a.start (shut a + 1) (array_of a.subject.origin (elements a.subject.bytes (reader a) a.size (env a) (turns_from a.subject.bytes a.start.last.place) [] a.start.last.place) a.start.last.place))
  array-runs =
      let i = a.start.last.place in
      shuts (elements a.subject.bytes (reader a) a.size (env a) (turns_from a.subject.bytes i) [] i)
      (loop (turns_from a.subject.bytes i) [] [] a.start.last g.within (omega (arith, g.within)))

module _ (code : List Op) (of_entries : List Entry) (subject : Subject) (most : ℕ) (deeper : Deeper) (depth : ℕ) (call : Caller)
    (sound : (t : Term) → SoundReader subject (read subject call t)) where
  module _ (seq : Seq) (runs : InSeq (λ t. RunsAs code of_entries subject most deeper depth (layout t) (read subject call t)) seq) (p below h : ℕ) (s : State)
      (ready : Ready code of_entries subject most deeper depth ((seq_layout seq).code p) p below h s) where
    abbrev parts : SeqReader
    parts = seq_reader subject call seq

    abbrev array : Option ℕ → Array
    array size = record {
      code = code;
      of_entries = of_entries;
      subject = subject;
      most = most;
      deeper = deeper;
      depth = depth;
      call = call;
      seq = seq;
      first = p;
      below = below;
      height = h;
      size = size;
      start = s;
    }

    given : (size : Option ℕ) → Given (array size)
    given size = record {
      deep = ready.deep;
      sane = ready.sane;
      counted = ready.counted;
      within = ready.within;
      laid = laid code deeper most below seq p h (record { there = ready.there; fits = ready.fits });
      runs = runs;
      sound = sound;
    }

    abbrev end : ℕ
    end = shut (array None) + 1

    size-steps : (t : State) → does of_entries subject (op.Size seq.size end) s ≡ Goes t → To code of_entries subject most s t
    size-steps t goes =
        let g = given None in
        steps (array None) g s t p h (op.Size seq.size end) g.laid.size_ ready.at_ (omega arith) ready.counted goes

    sized-runs : (found : Option (Option ℕ)) → size_at seq.size (seen s) ≡ found → To code of_entries subject most s (behind s end (sized subject parts found (seen s) s.last.place))
    sized-runs None found_is = size-steps (behind s end (fails subject.origin cause.ArrayBound s.last.place)) (rw found_is refl)
    sized-runs (Some size) found_is =
        let a = array size in
        let t = running a (p + 1) s.last (holds a [] [] None) s.marks in
        let e = elements subject.bytes parts size (seen s) (turns_from subject.bytes s.last.place) [] s.last.place in
        join code of_entries subject most s t (behind s end (array_of subject.origin e s.last.place))
        (size-steps t (rw (found_is, ready.at_) refl)) (array-runs a (given size))

    seq-reaches : To code of_entries subject most s (behind s (p + (seq_layout seq).size) (seq_of subject parts (seen s) s.last.place))
    seq-reaches =
        let r = seq_of subject parts (seen s) s.last.place in
        let last : end ≡ p + (seq_layout seq).size = omega arith in
        to-same code of_entries subject most s (behind s end r) (behind s (p + (seq_layout seq).size) r) (ap (λ q. behind s q r) last)
        (sized-runs (size_at seq.size (seen s)) refl)

  -- an array
  pub seq-runs : (s : Seq) → InSeq (λ t. RunsAs code of_entries subject most deeper depth (layout t) (read subject call t)) s
      → RunsAs code of_entries subject most deeper depth (seq_layout s) (λ env i. seq_of subject (seq_reader subject call s) env i)
  seq-runs seq runs p below h s ready = seq-reaches seq runs p below h s ready
