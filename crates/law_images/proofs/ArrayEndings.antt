-- Before each element the machine ends the array where the calculus does, by the size, the last element, the
-- terminator or the record's end, and with the same cause; else it comes behind Edge.
use Rattle.std.proofs.Common.{◌≡◌, ap, refl, subst, arith, eq-eqb, nat_eq, ℕ, ◌+◌, ◌≤◌, Bool, cond, true, false, List, ◌∷◌, length, Option, Some, None, option_map}
use Rattle.pads_value.specs.declared.descriptor.Pd.{Pd}
use Rattle.pads_value.specs.declared.value.Val.{Val}
use Rattle.pads_calc.specs.declared.reading.Reading.{Reading}
use Rattle.pads_calc.specs.declared.turn.Ending.{Ending}
use Rattle.pads_calc.specs.declared.turn.Ending.TheVariants as ending
use Rattle.pads_calc.specs.declared.term.Term.{Term}
use Rattle.pads_calc.specs.Arrays.{is_full, is_last, is_stopped, below_size, ending_at, ending_by}
use Rattle.pads_calc.specs.Calculus.{option_reader}
use Rattle.pads_calc.specs.Leaves.{at_end}
use Rattle.pads_calc.specs.Readings.{is_ok}
use Rattle.pads_calc.proofs.Induction.{WhereThere}
use Rattle.pads_image.specs.declared.op.Op.TheVariants as op
use Rattle.pads_image.specs.Blocks.{stop_size, stop_code, layout}
use Rattle.pads_image.specs.States.{State, Node, Mark}
use Rattle.pads_image.specs.Steps.{Goes, does, mark_at, back_to}
use Rattle.law_images.proofs.ArrayCode.{Spot, stop-laid}
use Rattle.law_images.proofs.ArrayStates.{Array, Given, Term_runs, read_of, reader, To_in, Reached, full, edge, shut, env, holds, running, seen-running, stay, steps, term-runs, and-then}
use Rattle.law_images.proofs.Reaching.{join, to-same}

module _ (a : Array) (g : Given a) (vs : List Val) (ks : List Pd) where
  abbrev marks : List Mark
  marks = a.start.marks

  abbrev node : Node
  node = holds a vs ks None

  abbrev pub Ends_as : State → ℕ → Ending → Type 0
  Ends_as s j (ending.Ends own) = Reached a s (shut a) (holds a vs ks own) marks j
  Ends_as s j ending.GoesOn = Reached a s (edge a + 1) node marks j

  alone : nat_eq (length a.start.bindings) (length a.start.bindings) ≡ true
  alone = eq-eqb (length a.start.bindings) (length a.start.bindings) refl

  -- what Full does
  module _ (r : Reading) where
    abbrev here : ℕ → State
    here q = running a q r node marks

    full-filled : is_full a.size (length vs) ≡ true → does a.of_entries a.subject (op.Full a.seq.last a.seq.elts (shut a)) (here (full a)) ≡ Goes (here (shut a))
    full-filled filled = rw (alone, filled) refl

    full-last : is_full a.size (length vs) ≡ false → is_last a.seq.last a.seq.elts vs (env a) ≡ true
        → does a.of_entries a.subject (op.Full a.seq.last a.seq.elts (shut a)) (here (full a)) ≡ Goes (here (shut a))
    full-last filled last = rw (alone, filled, seen-running a (full a) r node marks, last) refl

    full-on : is_full a.size (length vs) ≡ false → is_last a.seq.last a.seq.elts vs (env a) ≡ false
        → does a.of_entries a.subject (op.Full a.seq.last a.seq.elts (shut a)) (here (full a)) ≡ Goes (here (full a + 1))
    full-on filled last = rw (alone, filled, seen-running a (full a) r node marks, last) refl

    -- what Edge does
    edge-over : at_end a.subject.bytes r.place ≡ true
        → does a.of_entries a.subject (op.Edge (shut a)) (here (edge a)) ≡ Goes (running a (shut a) r (holds a vs ks (below_size a.size)) marks)
    edge-over over = rw over refl

    edge-on : at_end a.subject.bytes r.place ≡ false → does a.of_entries a.subject (op.Edge (shut a)) (here (edge a)) ≡ Goes (here (edge a + 1))
    edge-on over = rw over refl

  -- what Stop does with a reading at its mark
  module _ (q j : ℕ) (r : Reading) where
    abbrev at_stop : State
    at_stop = running a q r node (mark_at j ∷ marks)

    stop-found : is_ok r ≡ true
        → does a.of_entries a.subject (op.Stop (shut a)) at_stop ≡ Goes (running a (shut a) (back_to j r) (holds a vs ks (below_size a.size)) marks)
    stop-found ok = rw ok refl

    stop-on : is_ok r ≡ false → does a.of_entries a.subject (op.Stop (shut a)) at_stop ≡ Goes (running a (q + 1) (back_to j r) node marks)
    stop-on ok = rw ok refl

  -- behind Full, up to Edge or to Shut
  abbrev Stops_as : State → ℕ → Bool → Type 0
  Stops_as s j true = Reached a s (shut a) (holds a vs ks (below_size a.size)) marks j
  Stops_as s j false = Reached a s (edge a) node marks j

  module _ (r : Reading) (within : r.place ≤ length a.subject.bytes) where
    abbrev behind_full : State
    behind_full = running a (a.first + 2) r node marks

    -- Stop, at what was read of the terminator
    stops-by : (found : Reading) (q : ℕ) → q + 1 ≡ edge a
        → ((t : State) → does a.of_entries a.subject (op.Stop (shut a)) (running a q found node (mark_at r.place ∷ marks)) ≡ Goes t → To_in a behind_full t)
        → (clean : Bool) → is_ok found ≡ clean → Stops_as behind_full r.place clean
    stops-by found q next stop true ok = record {
      last = back_to r.place found;
      place = refl;
      run = stop (running a (shut a) (back_to r.place found) (holds a vs ks (below_size a.size)) marks) (stop-found q r.place found ok);
    }
    stops-by found q next stop false ok =
        let at = λ (q : ℕ). running a q (back_to r.place found) node marks in
        record {
          last = back_to r.place found;
          place = refl;
          run = to-same a.code a.of_entries a.subject a.most behind_full (at (q + 1)) (at (edge a)) (ap at next) (stop (at (q + 1)) (stop-on q r.place found ok));
        }

    stops : (o : Option Term) → WhereThere (Term_runs a) o → a.first + 2 + stop_size (option_map layout o) ≡ edge a
        → Spot a.code a.deeper a.most a.below (a.first + 2) (a.height + 1) (stop_code (option_map layout o) (shut a) (a.first + 2))
        → Stops_as behind_full r.place (is_stopped (option_reader a.subject a.call o) (env a) r.place)
    stops None runs next spot =
        let same : a.first + 2 ≡ edge a = omega (arith, next) in
        record {
          last = r;
          place = refl;
          run = to-same a.code a.of_entries a.subject a.most behind_full behind_full (running a (edge a) r node marks)
              (ap (λ q. running a q r node marks) same) (stay a behind_full);
        }
    stops (Some t) runs next spot =
        let laid = stop-laid a.code a.deeper a.most a.below t (shut a) (a.first + 2) (a.height + 1) spot in
        let p = a.first + 2 in
        let q = p + 1 + (layout t).size in
        let found = read_of a t (env a) r.place in
        let marked = running a (p + 1) r node (mark_at r.place ∷ marks) in
        let read = running a q found node (mark_at r.place ∷ marks) in
        let to : To_in a behind_full read = join a.code a.of_entries a.subject a.most behind_full marked read
        (steps a g behind_full marked p (a.height + 1) op.Mark laid.mark refl (omega arith) (omega (arith, g.counted)) refl)
        (term-runs a g t (runs t refl) (p + 1) (a.height + 1 + 1) r vs ks (mark_at r.place ∷ marks) laid.inner within (omega (arith, g.counted))) in
        stops-by found q (omega (arith, next))
        (λ u does. join a.code a.of_entries a.subject a.most behind_full read u to
        (steps a g read u q (a.height + 1 + 1) (op.Stop (shut a)) laid.stop refl (omega arith) (omega (arith, g.counted)) does))
        (is_ok found) refl

  -- from Edge on
  edge-runs : (r : Reading) (over : Bool) → at_end a.subject.bytes r.place ≡ over
      → Ends_as (running a (edge a) r node marks) r.place (cond over (ending.Ends (below_size a.size)) ending.GoesOn)
  edge-runs r true over =
      let s = running a (edge a) r node marks in
      let t = running a (shut a) r (holds a vs ks (below_size a.size)) marks in
      record { last = r; place = refl; run = steps a g s t (edge a) (a.height + 1) (op.Edge (shut a)) g.laid.over refl (omega arith) (omega (arith, g.counted)) (edge-over r over) }
  edge-runs r false over =
      let s = running a (edge a) r node marks in
      let t = running a (edge a + 1) r node marks in
      record { last = r; place = refl; run = steps a g s t (edge a) (a.height + 1) (op.Edge (shut a)) g.laid.over refl (omega arith) (omega (arith, g.counted)) (edge-on r over) }

  -- from behind Full on
  on-from : (s t : State) (j : ℕ) (e : Ending) → To_in a s t → Ends_as t j e → Ends_as s j e
  on-from s t j (ending.Ends own) to later = and-then a g s t (shut a) (holds a vs ks own) marks j to later
  on-from s t j ending.GoesOn to later = and-then a g s t (edge a + 1) node marks j to later

  stops-then : (s : State) (j : ℕ) (stopped : Bool) → Stops_as s j stopped
      → Ends_as s j (cond stopped (ending.Ends (below_size a.size)) (cond (at_end a.subject.bytes j) (ending.Ends (below_size a.size)) ending.GoesOn))
  stops-then s j true got = got
  stops-then s j false got =
      let t = running a (edge a) got.last node marks in
      let over = at_end a.subject.bytes got.last.place in
      on-from s t j (cond (at_end a.subject.bytes j) (ending.Ends (below_size a.size)) ending.GoesOn) got.run
      (subst (λ (j : ℕ). Ends_as t j (cond (at_end a.subject.bytes j) (ending.Ends (below_size a.size)) ending.GoesOn)) got.place (edge-runs got.last over refl))

  -- from Full on
  module _ (r : Reading) (within : r.place ≤ length a.subject.bytes) where
    abbrev at_full : State
    at_full = running a (full a) r node marks

    full-steps : (t : State) → does a.of_entries a.subject (op.Full a.seq.last a.seq.elts (shut a)) at_full ≡ Goes t → To_in a at_full t
    full-steps t goes =
        steps a g at_full t (full a) (a.height + 1) (op.Full a.seq.last a.seq.elts (shut a)) g.laid.full refl (omega arith) (omega (arith, g.counted)) goes

    ends-by : (filled last : Bool) → is_full a.size (length vs) ≡ filled → is_last a.seq.last a.seq.elts vs (env a) ≡ last
        → Ends_as at_full r.place (ending_by filled last (is_stopped (reader a).stop (env a) r.place) (at_end a.subject.bytes r.place) a.size)
    ends-by true last filled_is last_is = record { last = r; place = refl; run = full-steps (running a (shut a) r node marks) (full-filled r filled_is) }
    ends-by false true filled_is last_is = record { last = r; place = refl; run = full-steps (running a (shut a) r node marks) (full-last r filled_is last_is) }
    ends-by false false filled_is last_is =
        let next : full a + 1 ≡ a.first + 2 = omega arith in
        let t = running a (a.first + 2) r node marks in
        let stopped = is_stopped (reader a).stop (env a) r.place in
        on-from at_full t r.place (ending_by false false stopped (at_end a.subject.bytes r.place) a.size)
        (to-same a.code a.of_entries a.subject a.most at_full (running a (full a + 1) r node marks) t (ap (λ q. running a q r node marks) next)
        (full-steps (running a (full a + 1) r node marks) (full-on r filled_is last_is)))
        (stops-then t r.place stopped (stops r within a.seq.stop g.runs.stop refl g.laid.stops))

    pub ends : Ends_as at_full r.place (ending_at a.subject.bytes (reader a) a.size vs (env a) r.place)
    unfolding ending_at
    ends = ends-by (is_full a.size (length vs)) (is_last a.seq.last a.seq.elts vs (env a)) refl refl
