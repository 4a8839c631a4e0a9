-- Between two elements of an array: the steps that look for its terminator and for the end of the record, begin a turn
-- and read its separator lead to the next element.
use Rattle.std.proofs.Common.{◌≡◌, ◌∙◌, sym, ap, refl, subst, arith, ℕ, zero, ◌+◌, ◌≤◌, ⊎_elim, Bool, true, false, if◌then◌else◌, nat_eq, eq-eqb, List, ◌∷◌, drop, length, Some, None, slice_get}
use Rattle.std.specs.List.{starts_with}
use Rattle.pads_value.specs.declared.cause.Cause.TheVariants as cause
use Rattle.pads_value.specs.declared.value.Val.TheVariants as val
use Rattle.pads_calc.specs.declared.reading.Reading.{Reading}
use Rattle.pads_calc.specs.Arrays.{below_size, is_full}
use Rattle.pads_calc.specs.Leaves.{at_end, eor_of, lit_of}
use Rattle.pads_calc.specs.Readings.{Subject, fails, is_ok, leaf}
use Rattle.pads_calc.proofs.CleanNodes.{fails-unclean}
use Rattle.pads_image.specs.declared.entry.Entry.{Entry}
use Rattle.pads_image.specs.declared.op.Op.{Op}
use Rattle.pads_image.specs.declared.op.Op.TheVariants as op
use Rattle.pads_image.specs.Answers.{HaltsWith}
use Rattle.pads_image.specs.States.{Mark, Node, State}
use Rattle.pads_image.specs.Steps.{Step, Goes, Stuck, back_to, does, is_first, mark_at, step, undone, with_own}
use Rattle.pads_steps.proofs.Searches.{absorbs}
use Rattle.pads_machine.specs.Between.{IsEdge, IsMissed, IsSeparated, IsSeparator, IsUnmet}
use Rattle.pads_machine.specs.Ran.{GoesWithin, Leads}
use Rattle.pads_machine.proofs.Endings.{full-alone}
use Rattle.pads_machine.proofs.Halts.{at-op, goes-within, moved}
use Rattle.pads_idle.proofs.Walking.{To, along, by, join, once}
use Rattle.pads_machine.proofs.Fitting.{fitting, halts-behind, room-there}

module _ (code : List Op) (of_entries : List Entry) (subject : Subject) (most : ℕ) where
  -- what is missing reads as something that isn't clean
  record Misses (instruction : Op) (t : State) : Type 0 where
    missed : Reading
    goes : does of_entries subject instruction t ≡ Goes (record t { at_ = t.at_ + 1; last = missed })
    unclean : is_ok missed ≡ false

  unmet-misses : (instruction : Op) (t : State) → IsUnmet subject instruction t.last.place → Misses instruction t
  unmet-misses instruction t unmet =
      let i = t.last.place in
      ⊎_elim
      (λ (e : (instruction ≡ op.Eor) × (at_end subject.bytes i ≡ false)). record {
        missed = eor_of subject i;
        goes = ap (λ (o : Op). does of_entries subject o t) e.0;
        unclean =
            ap (λ (b : Bool). is_ok (if b then leaf subject.origin val.Unit i i else fails subject.origin cause.MissingEor i)) e.1
            ∙ fails-unclean subject.origin cause.MissingEor i;
      })
      (λ (e : (literal : List ℕ) × (instruction ≡ op.Lit literal) × (starts_with nat_eq (drop i subject.bytes) literal ≡ false)). record {
        missed = lit_of subject e.0 i;
        goes = ap (λ (o : Op). does of_entries subject o t) e.1;
        unclean =
            ap (λ (b : Bool). is_ok (if b then leaf subject.origin val.Unit i (i + length e.0) else fails subject.origin cause.MissingLiteral i)) e.2
            ∙ fails-unclean subject.origin cause.MissingLiteral i;
      })
      unmet

  -- an array
  module _ (z : State) (n : Node) (nodes : List Node) where
    abbrev i : ℕ
    i = z.last.place

    -- at an address, with what was read last and marks
    abbrev at_address : ℕ → Reading → List Mark → State
    at_address address last marks = record z { at_ = address; last = last; nodes = n ∷ nodes; marks = marks }

    abbrev full : State
    full = at_address z.at_ z.last z.marks

    abbrev behind : State
    behind = at_address (z.at_ + 1) z.last z.marks

    -- it isn't full
    goes-on : (name shut : ℕ) → slice_get code z.at_ ≡ Some (op.Full None name shut) → is_full n.size (length n.values) ≡ false → length z.bindings ≡ n.base
        → step of_entries subject code full ≡ Goes behind
    goes-on name shut there lacks alone =
        by code of_entries subject full behind (op.Full None name shut) there
        (ap (λ (own : Bool). if own then (if is_full n.size (length n.values) then Goes (at_address shut z.last z.marks) else Goes behind) else Stuck) (eq-eqb (length z.bindings) n.base alone)
        ∙ ap (λ (is : Bool). if is then Goes (at_address shut z.last z.marks) else Goes behind) lacks)

    -- where it goes on, with a reading at the same place
    record Edged (edge : ℕ) : Type 0 where
      last : Reading
      same : last.place ≡ i
      walk : To code of_entries subject behind (at_address edge last z.marks)

    -- its terminator is missing
    stop-missed : IsMissed code subject (z.at_ + 1) i → Edged (z.at_ + 1 + 3)
    stop-missed m =
        let noted = at_address (z.at_ + 1 + 1) z.last (mark_at i ∷ z.marks) in
        let x = unmet-misses m.instruction noted m.unmet in
        let two : z.at_ + 1 + 1 + 1 ≡ z.at_ + 1 + 2 = omega arith in
        let three : z.at_ + 1 + 2 + 1 ≡ z.at_ + 1 + 3 = omega arith in
        let looked = at_address (z.at_ + 1 + 2) x.missed (mark_at i ∷ z.marks) in
        let left = at_address (z.at_ + 1 + 3) (back_to i x.missed) z.marks in
        let found = Goes (record z { at_ = m.stop.0; last = back_to i x.missed; nodes = with_own (below_size n.size) n ∷ nodes }) in
        let looks : step of_entries subject code noted ≡ Goes looked =
        by code of_entries subject noted looked m.instruction m.there
        (x.goes ∙ ap (λ p. Goes (at_address p x.missed (mark_at i ∷ z.marks))) two) in
        let stops : step of_entries subject code looked ≡ Goes left =
        by code of_entries subject looked left (op.Stop m.stop.0) m.stop.1
        (ap (λ (ok : Bool). if ok then found else Goes (at_address (z.at_ + 1 + 2 + 1) (back_to i x.missed) z.marks)) x.unclean
        ∙ ap (λ p. Goes (at_address p (back_to i x.missed) z.marks)) three) in
        record {
          last = back_to i x.missed;
          same = refl;
          walk =
              along code of_entries subject behind noted left (by code of_entries subject behind noted op.Mark m.mark refl)
              (along code of_entries subject noted looked left looks (once code of_entries subject looked left stops));
        }

    edged : (edge : ℕ) → IsEdge code subject (z.at_ + 1) i edge → Edged edge
    edged edge is =
        ⊎_elim
        (λ (same : edge ≡ z.at_ + 1). subst (λ p. Edged p) (sym same) (record { last = z.last; same = refl; walk = record { steps = zero; walk = refl } }))
        (λ (m : IsMissed code subject (z.at_ + 1) i × (edge ≡ z.at_ + 1 + 3)). subst (λ p. Edged p) (sym m.1) (stop-missed m.0))
        is

    -- from there to the next element
    module _ (edge : ℕ) (last : Reading) (same : last.place ≡ i) (literal : List ℕ) (is : IsSeparator code edge literal) where
      abbrev begun : State
      begun = at_address (edge + 2) last (mark_at i ∷ z.marks)

      to-turn : is_first n ≡ false → at_end subject.bytes i ≡ false → To code of_entries subject (at_address edge last z.marks) begun
      to-turn later on =
          let a = at_address edge last z.marks in
          let b = at_address (edge + 1) last z.marks in
          let two : edge + 1 + 1 ≡ edge + 2 = omega arith in
          let ends = Goes (record z { at_ = is.edges.0; last = last; nodes = with_own (below_size n.size) n ∷ nodes }) in
          let on_there : at_end subject.bytes last.place ≡ false = ap (λ p. at_end subject.bytes p) same ∙ on in
          let edges : step of_entries subject code a ≡ Goes b =
          by code of_entries subject a b (op.Edge is.edges.0) is.edges.1 (ap (λ (over : Bool). if over then ends else Goes b) on_there) in
          let turns : step of_entries subject code b ≡ Goes begun =
          by code of_entries subject b begun (op.Turn is.turns.0) is.turns.1
          (ap (λ (first : Bool). Goes (at_address (if first then is.turns.0 else edge + 1 + 1) last (mark_at last.place ∷ z.marks))) later
          ∙ ap (λ p. Goes (at_address p last (mark_at last.place ∷ z.marks))) two
          ∙ ap (λ p. Goes (at_address (edge + 2) last (mark_at p ∷ z.marks))) same) in
          along code of_entries subject a b begun edges (once code of_entries subject b begun turns)

      to-element : is_ok (lit_of subject literal i) ≡ true → To code of_entries subject begun (at_address (edge + 5) (lit_of subject literal i) (mark_at i ∷ z.marks))
      to-element ok =
          let r = lit_of subject literal i in
          let marks = mark_at i ∷ z.marks in
          let c = at_address (edge + 3) r marks in
          let d = at_address (edge + 4) r marks in
          let e = at_address (edge + 5) r marks in
          let three : edge + 2 + 1 ≡ edge + 3 = omega arith in
          let four : edge + 3 + 1 ≡ edge + 4 = omega arith in
          let five : edge + 4 + 1 ≡ edge + 5 = omega arith in
          let reads : step of_entries subject code begun ≡ Goes c =
          by code of_entries subject begun c (op.Lit literal) is.reads
          (ap (λ p. Goes (at_address (edge + 2 + 1) (lit_of subject literal p) marks)) same ∙ ap (λ p. Goes (at_address p r marks)) three) in
          let drops : step of_entries subject code c ≡ Goes d =
          by code of_entries subject c d op.Absorb is.drops
          (ap (λ (x : Reading). Goes (at_address (edge + 3 + 1) x marks)) (absorbs subject literal i) ∙ ap (λ p. Goes (at_address p r marks)) four) in
          let stands : step of_entries subject code d ≡ Goes e =
          by code of_entries subject d e (op.Sep is.separates.0) is.separates.1
          (ap (λ (ok : Bool). if ok then Goes (at_address (edge + 4 + 1) r marks) else undone cause.ArraySep is.separates.0 d n nodes (mark_at i) z.marks) ok
          ∙ ap (λ p. Goes (at_address p r marks)) five) in
          along code of_entries subject begun c e reads (along code of_entries subject c d e drops (once code of_entries subject d e stands))

  -- the run of such an array
  module _ (s : State) (n : Node) (nodes : List Node) (nodes_are : s.nodes ≡ n ∷ nodes) (later : is_first n ≡ false) (lacks : is_full n.size (length n.values) ≡ false)
      (on : at_end subject.bytes s.last.place ≡ false) (name shut : ℕ) (there : slice_get code s.at_ ≡ Some (op.Full None name shut)) (edge : ℕ)
      (is : IsEdge code subject (s.at_ + 1) s.last.place edge) (end : Reading) (halts : HaltsWith code of_entries subject most s end) (r : Reading)
      (sep : IsSeparated code subject edge s.last.place r) where
    alone : length s.bindings ≡ n.base
    alone =
        full-alone shut s n nodes nodes_are None name most
        (subst (λ (x : Step). GoesWithin most x) (at-op code of_entries subject most s (op.Full None name shut) there) (goes-within code of_entries subject most s end halts))

    same-state : s ≡ full s n nodes
    same-state = ap (λ (nodes : List Node). record s { nodes = nodes }) nodes_are

    abbrev past : State
    past = behind s n nodes

    -- the array isn't full
    goes : step of_entries subject code s ≡ Goes past
    goes = ap (λ (x : State). step of_entries subject code x) same-state ∙ goes-on s n nodes name shut there lacks alone

    past-halts : HaltsWith code of_entries subject most past end
    past-halts = moved code of_entries subject most s past end goes halts

    abbrev found : Edged s n nodes edge
    found = edged s n nodes edge is

    abbrev turn : State
    turn = begun s n nodes edge found.last found.same sep.0 sep.1

    turned : To code of_entries subject past turn
    turned =
        join code of_entries subject past (at_address s n nodes edge found.last s.marks) turn found.walk
        (to-turn s n nodes edge found.last found.same sep.0 sep.1 later on)

    -- a mark has room
    pub separator-room : length s.marks + 1 ≤ most
    separator-room =
        let fits = room-there code of_entries subject most turn end (halts-behind code of_entries subject most turned.steps past turn end turned.walk past-halts) in
        omega (arith, fits)

    pub separator-leads : Leads code of_entries subject most s (record s { at_ = edge + 5; last = r; marks = mark_at s.last.place ∷ s.marks })
    separator-leads =
        let u = at_address s n nodes (edge + 5) (lit_of subject sep.0 s.last.place) (mark_at s.last.place ∷ s.marks) in
        let ok : is_ok (lit_of subject sep.0 s.last.place) ≡ true = ap (λ (x : Reading). is_ok x) (sym sep.2) ∙ sep.3 in
        let walk = join code of_entries subject past turn u turned (to-element s n nodes edge found.last found.same sep.0 sep.1 ok) in
        let led : Leads code of_entries subject most s u =
        record { next_ = past; goes = goes; more = fitting code of_entries subject most walk.steps past u end walk.walk past-halts } in
        subst (λ (x : Reading). Leads code of_entries subject most s (record s { at_ = edge + 5; last = x; marks = mark_at s.last.place ∷ s.marks })) (sym sep.2)
        (subst (λ (nodes : List Node). Leads code of_entries subject most s (record s { at_ = edge + 5; last = lit_of subject sep.0 s.last.place; nodes = nodes; marks = mark_at s.last.place ∷ s.marks })) (sym nodes_are) led)
