-- A turn of an array's code reads the element that the calculus does, behind the separator, and keeps it; or
-- the turn is undone, the place is where it began, and the array has the same cause.
use Rattle.std.proofs.Common.{◌≡◌, ap, refl, arith, ℕ, ◌+◌, ◌≤◌, Bool, cond, if◌then◌else◌, true, false, not, ◌&&◌, nat_eq, List, [], ◌∷◌, ◌++◌, length, Option, Some, None, option_map}
use Rattle.std.proofs.Math.Dec.{eqb-suc-zero}
use Rattle.pads_value.specs.declared.cause.Cause.TheVariants as cause
use Rattle.pads_value.specs.declared.descriptor.Pd.{Pd, out-Pd}
use Rattle.pads_value.specs.declared.value.Val.{Val}
use Rattle.pads_calc.specs.declared.reading.Reading.{Reading}
use Rattle.pads_calc.specs.declared.turn.Turn.{Turn}
use Rattle.pads_calc.specs.declared.turn.Turn.TheVariants as turn
use Rattle.pads_calc.specs.declared.term.Term.{Term}
use Rattle.pads_calc.specs.Arrays.{is_empty, is_fail_class, element_at, turn_at, turn_from}
use Rattle.pads_calc.specs.Calculus.{option_reader}
use Rattle.pads_calc.specs.Leaves.{unit_of}
use Rattle.pads_calc.specs.Places.{EndsWithin, TurnsWithin}
use Rattle.pads_calc.specs.Readings.{is_ok}
use Rattle.pads_calc.proofs.Induction.{WhereThere}
use Rattle.pads_calc.proofs.Turns.{turn-within}
use Rattle.pads_image.specs.declared.op.Op.TheVariants as op
use Rattle.pads_image.specs.Blocks.{sep_size, sep_code, layout}
use Rattle.pads_image.specs.States.{State, Node}
use Rattle.pads_image.specs.Steps.{Goes, does, mark_at, back_to, began}
use Rattle.law_images.proofs.ArrayCode.{Spot, sep-laid}
use Rattle.law_images.proofs.ArrayStates.{Array, Given, Term_runs, read_of, reader, To_in, Reached, full, edge, elem_first, shut, env, holds, running, steps, term-runs}
use Rattle.law_images.proofs.Reaching.{join, to-same}
use Rattle.law_images.proofs.SwitchesRun.{began-sound}

first-is : (vs : List Val) → nat_eq (length vs) 0 ≡ is_empty vs
first-is [] = refl
first-is (v ∷ vs) = eqb-suc-zero (length vs)

module _ (a : Array) (g : Given a) (vs : List Val) (ks : List Pd) where
  abbrev node : Node
  node = holds a vs ks None

  -- in a turn that began at a place
  abbrev turning : ℕ → Reading → ℕ → State
  turning q r j = running a q r node (mark_at j ∷ a.start.marks)

  -- at the element, or at the end of the array
  record Begun (s : State) (j begin : ℕ) : Type 0 where
    pub reached : Reached a s (elem_first a) node (mark_at j ∷ a.start.marks) begin
    pub forth : j ≤ begin
    pub within : begin ≤ length a.subject.bytes

  abbrev Begins_as : State → ℕ → Option ℕ → Type 0
  Begins_as s j None = Reached a s (shut a) (holds a vs ks (Some cause.ArraySep)) a.start.marks j
  Begins_as s j (Some begin) = Begun s j begin

  -- the element is kept, or the turn is undone
  pub record Kept (s : State) (j : ℕ) (r : Reading) : Type 0 where
    pub run : To_in a s (running a (full a) (unit_of a.subject.origin r.place) (holds a (vs ++ r.value ∷ []) (ks ++ r.pd ∷ []) None) a.start.marks)
    pub within : TurnsWithin a.subject.bytes (is_empty vs) j (turn.Kept r)

  abbrev pub Turns_as : State → ℕ → Turn → Type 0
  Turns_as s j (turn.Undone cause) = Reached a s (shut a) (holds a vs ks (Some cause)) a.start.marks j
  Turns_as s j (turn.Kept r) = Kept s j r

  -- what Sep does with a reading
  sep-clean : (q j : ℕ) (r : Reading) → is_ok r ≡ true → does a.of_entries a.subject (op.Sep (shut a)) (turning q r j) ≡ Goes (turning (q + 1) r j)
  sep-clean q j r ok = rw ok refl

  sep-undone : (q j : ℕ) (r : Reading) → is_ok r ≡ false
      → does a.of_entries a.subject (op.Sep (shut a)) (turning q r j) ≡ Goes (running a (shut a) (back_to j r) (holds a vs ks (Some cause.ArraySep)) a.start.marks)
  sep-undone q j r ok = rw ok refl

  -- what Elem does with an element
  module _ (q j begin : ℕ) (r : Reading) (starts : began a.subject.origin r ≡ begin) where
    abbrev fallen : Bool
    fallen = is_fail_class (out-Pd r.pd).class && nat_eq r.place begin

    abbrev stalled : Bool
    stalled = not (is_empty vs) && nat_eq r.place j

    elem-fallen : fallen ≡ true
        → does a.of_entries a.subject (op.Elem (shut a) (full a)) (turning q r j) ≡ Goes (running a (shut a) (back_to j r) (holds a vs ks (Some cause.ArrayElem)) a.start.marks)
    elem-fallen fell = rw (starts, fell) refl

    elem-stalled : fallen ≡ false → stalled ≡ true
        → does a.of_entries a.subject (op.Elem (shut a) (full a)) (turning q r j) ≡ Goes (running a (shut a) (back_to j r) (holds a vs ks (Some cause.ArrayStall)) a.start.marks)
    elem-stalled fell stall = rw (starts, fell, first-is vs, stall) refl

    elem-kept : fallen ≡ false → stalled ≡ false
        → does a.of_entries a.subject (op.Elem (shut a) (full a)) (turning q r j)
        ≡ Goes (running a (full a) (unit_of a.subject.origin r.place) (holds a (vs ++ r.value ∷ []) (ks ++ r.pd ∷ []) None) a.start.marks)
    elem-kept fell stall = rw (starts, fell, first-is vs, stall) refl

  -- from Turn on
  module _ (r : Reading) (within : r.place ≤ length a.subject.bytes) where
    abbrev at_turn : State
    at_turn = running a (edge a + 1) r node a.start.marks

    turn-steps : (is_first : Bool) → is_empty vs ≡ is_first → To_in a at_turn (turning (cond is_first (elem_first a) (edge a + 2)) r r.place)
    turn-steps is_first first_is =
        let next : edge a + 1 + 1 ≡ edge a + 2 = omega arith in
        steps a g at_turn (turning (cond is_first (elem_first a) (edge a + 2)) r r.place) (edge a + 1) (a.height + 1) (op.Turn (elem_first a)) g.laid.turn refl (omega arith) (omega (arith, g.counted))
        (rw (first-is vs, first_is, next) refl)

    -- Sep, at what was read of the separator
    sep-by : (parted : Reading) (q : ℕ) → EndsWithin a.subject.bytes r.place parted → q + 1 ≡ elem_first a
        → ((t : State) → does a.of_entries a.subject (op.Sep (shut a)) (turning q parted r.place) ≡ Goes t → To_in a at_turn t)
        → (clean : Bool) → is_ok parted ≡ clean → Begins_as at_turn r.place (if clean then Some parted.place else None)
    sep-by parted q ends next goes true ok = record {
      reached = record {
        last = parted;
        place = refl;
        run = to-same a.code a.of_entries a.subject a.most at_turn (turning (q + 1) parted r.place) (turning (elem_first a) parted r.place)
            (ap (λ q. turning q parted r.place) next) (goes (turning (q + 1) parted r.place) (sep-clean q r.place parted ok));
      };
      forth = ends.0;
      within = ends.1;
    }
    sep-by parted q ends next goes false ok = record {
      last = back_to r.place parted;
      place = refl;
      run = goes (running a (shut a) (back_to r.place parted) (holds a vs ks (Some cause.ArraySep)) a.start.marks) (sep-undone q r.place parted ok);
    }

    -- an element that begins where the turn does
    at-once : (is_first : Bool) → is_empty vs ≡ is_first → cond is_first (elem_first a) (edge a + 2) ≡ elem_first a → Begun at_turn r.place r.place
    at-once is_first first_is same = record {
      reached = record {
        last = r;
        place = refl;
        run = to-same a.code a.of_entries a.subject a.most at_turn (turning (cond is_first (elem_first a) (edge a + 2)) r r.place) (turning (elem_first a) r r.place)
            (ap (λ q. turning q r r.place) same) (turn-steps is_first first_is);
      };
      forth = omega arith;
      within = within;
    }

    begins : (o : Option Term) → WhereThere (Term_runs a) o → edge a + 2 + sep_size (option_map layout o) ≡ elem_first a
        → Spot a.code a.deeper a.most a.below (edge a + 2) (a.height + 2) (sep_code (option_map layout o) (shut a) (edge a + 2))
        → (is_first : Bool) → is_empty vs ≡ is_first → Begins_as at_turn r.place (element_at (option_reader a.subject a.call o) is_first (env a) r.place)
    begins None runs next spot true first_is = at-once true first_is refl
    begins None runs next spot false first_is = at-once false first_is (omega (arith, next))
    begins (Some t) runs next spot true first_is = at-once true first_is refl
    begins (Some t) runs next spot false first_is =
        let laid = sep-laid a.code a.deeper a.most a.below t (shut a) (edge a + 2) (a.height + 2) spot in
        let q = edge a + 2 in
        let behind = q + (layout t).size in
        let parted = read_of a t (env a) r.place in
        let sound = g.sound t (env a) r.place in
        let s = turning q r r.place in
        let read = turning behind parted r.place in
        sep-by parted behind (sound.forth, sound.within within) (omega (arith, next))
        (λ u does. join a.code a.of_entries a.subject a.most at_turn s u (turn-steps false first_is)
        (join a.code a.of_entries a.subject a.most s read u
        (term-runs a g t (runs t refl) q (a.height + 2) r vs ks (mark_at r.place ∷ a.start.marks) laid.inner within (omega (arith, g.counted)))
        (steps a g read u behind (a.height + 2) (op.Sep (shut a)) laid.sep refl (omega arith) (omega (arith, g.counted)) does)))
        (is_ok parted) refl

  -- from the element on
  elem-by : (s : State) (q j begin : ℕ) (r : Reading) → began a.subject.origin r ≡ begin → EndsWithin a.subject.bytes j r
      → ((t : State) → does a.of_entries a.subject (op.Elem (shut a) (full a)) (turning q r j) ≡ Goes t → To_in a s t)
      → (fell stall : Bool) → (is_fail_class (out-Pd r.pd).class && nat_eq r.place begin) ≡ fell → (not (is_empty vs) && nat_eq r.place j) ≡ stall
      → Turns_as s j (if fell then turn.Undone cause.ArrayElem else if stall then turn.Undone cause.ArrayStall else turn.Kept r)
  elem-by s q j begin r starts ends goes true stall fell_is stall_is = record {
    last = back_to j r;
    place = refl;
    run = goes (running a (shut a) (back_to j r) (holds a vs ks (Some cause.ArrayElem)) a.start.marks) (elem-fallen q j begin r starts fell_is);
  }
  elem-by s q j begin r starts ends goes false true fell_is stall_is = record {
    last = back_to j r;
    place = refl;
    run = goes (running a (shut a) (back_to j r) (holds a vs ks (Some cause.ArrayStall)) a.start.marks) (elem-stalled q j begin r starts fell_is stall_is);
  }
  elem-by s q j begin r starts ends goes false false fell_is stall_is = record {
    run = goes (running a (full a) (unit_of a.subject.origin r.place) (holds a (vs ++ r.value ∷ []) (ks ++ r.pd ∷ []) None) a.start.marks)
        (elem-kept q j begin r starts fell_is stall_is);
    within = rw (fell_is, stall_is) at (turn-within a.subject.bytes (is_empty vs) j begin r ends);
  }

  elem-runs : (s : State) (j : ℕ) (o : Option ℕ) → Begins_as s j o → Turns_as s j (turn_at (reader a).elem (is_empty vs) (env a) j o)
  elem-runs s j None got = got
  elem-runs s j (Some begin) got =
      let q = elem_first a in
      let behind = q + (layout a.seq.elem).size in
      let at = λ (j : ℕ). read_of a a.seq.elem (env a) j in
      let r = at begin in
      let sound = g.sound a.seq.elem (env a) begin in
      let before = turning q got.reached.last j in
      let read = turning behind r j in
      let same : at got.reached.last.place ≡ r = ap at got.reached.place in
      let to : To_in a before read = to-same a.code a.of_entries a.subject a.most before (turning behind (at got.reached.last.place) j) read (ap (λ r. turning behind r j) same)
      (term-runs a g a.seq.elem g.runs.elem q (a.height + 2) got.reached.last vs ks (mark_at j ∷ a.start.marks) g.laid.inner
      (omega (arith, got.reached.place, got.within)) (omega (arith, g.counted))) in
      elem-by s behind j begin r (began-sound a.subject begin r sound) (omega (arith, got.forth, sound.forth), sound.within got.within)
      (λ u does. join a.code a.of_entries a.subject a.most s before u got.reached.run
      (join a.code a.of_entries a.subject a.most before read u to
      (steps a g read u behind (a.height + 2) (op.Elem (shut a) (full a)) g.laid.kept refl (omega arith) (omega (arith, g.counted)) does)))
      (is_fail_class (out-Pd r.pd).class && nat_eq r.place begin) (not (is_empty vs) && nat_eq r.place j) refl refl

  pub turns : (r : Reading) → r.place ≤ length a.subject.bytes
      → Turns_as (running a (edge a + 1) r node a.start.marks) r.place (turn_from (reader a) (is_empty vs) (env a) r.place)
  unfolding turn_from
  turns r within =
      elem-runs (running a (edge a + 1) r node a.start.marks) r.place (element_at (reader a).sep (is_empty vs) (env a) r.place)
      (begins r within a.seq.sep g.runs.sep refl g.laid.seps (is_empty vs) refl)
