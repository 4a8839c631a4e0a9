use Rattle.std.proofs.Common.{◌≡◌, ◌∙◌, sym, ap, ◌+◌, ◌-◌, ◌*◌, ◌<◌, true, false, [], ◌∷◌, ◌++◌, length, get_or, refl, length-append, map, Some, None, slice_get, arith}
use Rattle.std.proofs.lemmas.List.{take_more, take_all}
use Rattle.pads_calc.specs.declared.term.Part.{Part}
use Rattle.pads_calc.specs.declared.term.Term.TheVariants as term
use denote.Param.Weighed.{most}
use Rattle.pads_calc.specs.declared.term.Case.{size-Case}
use Rattle.pads_calc.specs.declared.term.Seq.{size-Seq}
use Rattle.pads_calc.specs.declared.term.Term.{size-Term}
use Rattle.pads_calc.proofs.Sizes.{size-Struct, size-Alt, size-Switch, size-Guard, size-of_Seq, size-Absorb, size-Scan, size-in_Case, most-there}
use Rattle.pads_calc.specs.Arguments.{argument, arguments}
use Rattle.pads_calc.specs.Arrays.{elements, turns_from, size_at, ending_at, turn_of, is_empty, is_full, is_last}
use Rattle.pads_calc.specs.Choices.{chosen}
use Rattle.pads_calc.specs.Places.{TurnsWithin}
use Rattle.pads_calc.specs.declared.turn.Ending.TheVariants as ending
use Rattle.pads_calc.specs.declared.turn.Turn.TheVariants as turn
use Rattle.pads_module.specs.Counts.{counts_fit}
use Rattle.pads_calc.specs.Readings.{Reader, is_ok}
use Rattle.pads_steps.specs.Records.{subject_of}
use Rattle.pads_calc.specs.Structs.{bind, in_turn}
use Rattle.pads_calc.specs.Wrappers.{scan, scan_from}
use Rattle.pads_module.proofs.CountRolls.{counts-Base, counts-Guard, counts-Absorb, counts-Scan, fit-parts, few-arms, fit-arms, few-cases, fit-cases, fit-elem, fit-sep, fit-stop, fit-body, all-there}
use Rattle.pads_calc.proofs.Calls.{call-deep, call-unargued, call-undeclared, call-found}
use Rattle.pads_calc.proofs.Scans.{scan-here, scan-on, scan-found, scan-next, scan-over}
use Rattle.pads_calc.proofs.Lists.{drop-past'}
use Rattle.pads_calc.proofs.Runs.{follows-start, follows-push, follows-struct, parts-next}
use Rattle.pads_calc.proofs.Choices.{switch-found}
use Rattle.pads_calc.proofs.Elements.{gathers-start, gathers-ended, gathers-undone, gathers-kept, seq-sized}
use Rattle.pads_calc.proofs.Turns.{turn-without, turn-with, turns-room, ending-full, ending-last, ending-stop, ending-over, ending-on}
use Rattle.pads_walk.specs.Fields.{kept, parts_of, values_of, AreDone}
use Rattle.pads_walk.specs.Reads.{calls, reads, reads_part, reads_seq}
use Rattle.pads_walk.proofs.Searches.{literal-reads}
use Rattle.pads_steps.proofs.Weights.{weight, weight-call, under}
use Rattle.pads_walk.proofs.reader.Reader.+reader.Goals as goal

pub read-base-requires : goal.read-base-requires
read-base-requires t c =
    let fits : counts_fit (term.Base c.in-Base.base c.in-Base.args) ≡ true = rw c.in-Base.is at c.requires.counted in
    record { labels = sym (counts-Base c.in-Base.base c.in-Base.args) ∙ fits; place = c.requires.within }

pub read-read_struct-requires : goal.read-read_struct-requires
read-read_struct-requires t c =
    let fits : counts_fit (term.Struct c.in-Struct.parts) ≡ true = rw c.in-Struct.is at c.requires.counted in
    (under _ _ _ _ 2 (omega arith) c.decreases (rw (c.in-Struct.is, c.as_slice-in-Struct.ensures.items) (size-Struct c.in-Struct.parts)), (c.requires.within, rw c.as_slice-in-Struct.ensures.items (fit-parts c.in-Struct.parts fits)))

pub read-read_alt-requires : goal.read-read_alt-requires
read-read_alt-requires t c =
    let fits : counts_fit (term.Alt c.in-Alt.arms) ≡ true = rw c.in-Alt.is at c.requires.counted in
    (under _ _ _ _ 1 (omega arith) c.decreases (rw (c.in-Alt.is, c.as_slice-in-Alt.ensures.items) (size-Alt c.in-Alt.arms)), (c.requires.within, (rw c.as_slice-in-Alt.ensures.items (few-arms c.in-Alt.arms fits), rw c.as_slice-in-Alt.ensures.items (fit-arms c.in-Alt.arms fits))))

pub read-read_switch-requires : goal.read-read_switch-requires
read-read_switch-requires t c =
    let fits : counts_fit (term.Switch c.in-Switch.e c.in-Switch.cases) ≡ true = rw c.in-Switch.is at c.requires.counted in
    (under _ _ _ _ 1 (omega arith) c.decreases (rw (c.in-Switch.is, c.as_slice-in-Switch.ensures.items) (size-Switch c.in-Switch.e c.in-Switch.cases)), (c.requires.within, (rw c.as_slice-in-Switch.ensures.items (few-cases c.in-Switch.e c.in-Switch.cases fits), rw c.as_slice-in-Switch.ensures.items (fit-cases c.in-Switch.e c.in-Switch.cases fits))))

pub read-read-requires : goal.read-read-requires
read-read-requires t c =
    let is : c.args.depth * weight c.args.self.now.decls.now + 4 * size-Term c.args.term.now ≡ t = c.decreases in
    let smaller : size-Term c.get.result.now < size-Term c.args.term.now = rw (c.in-Guard.is, c.get.ensures.value) (size-Guard c.in-Guard.inner c.in-Guard.binder c.in-Guard.condition) in
    let less : c.args.depth * weight c.args.self.now.decls.now + 4 * size-Term c.get.result.now < t = omega arith in
    let fits : counts_fit (term.Guard c.in-Guard.inner c.in-Guard.binder c.in-Guard.condition) ≡ true = rw c.in-Guard.is at c.requires.counted in
    (less, (c.requires.within, ap counts_fit c.get.ensures.value ∙ sym (counts-Guard c.in-Guard.inner c.in-Guard.binder c.in-Guard.condition) ∙ fits))

pub read-read_seq-requires : goal.read-read_seq-requires
read-read_seq-requires t c =
    let fits : counts_fit (term.Seq c.in-Seq.seq) ≡ true = rw c.in-Seq.is at c.requires.counted in
    (under _ _ _ _ 3 (omega arith) c.decreases (rw (c.in-Seq.is, c.get-in-Seq.ensures.value) (size-of_Seq c.in-Seq.seq)), (c.requires.within, (rw c.get-in-Seq.ensures.value (fit-elem c.in-Seq.seq fits), (rw c.get-in-Seq.ensures.value (fit-sep c.in-Seq.seq fits), rw c.get-in-Seq.ensures.value (fit-stop c.in-Seq.seq fits)))))

pub read-read-requires-in-Absorb : goal.read-read-requires-in-Absorb
read-read-requires-in-Absorb t c =
    let is : c.args.depth * weight c.args.self.now.decls.now + 4 * size-Term c.args.term.now ≡ t = c.decreases in
    let smaller : size-Term c.get-in-Absorb.result.now < size-Term c.args.term.now = rw (c.in-Absorb.is, c.get-in-Absorb.ensures.value) (size-Absorb c.in-Absorb.inner) in
    let less : c.args.depth * weight c.args.self.now.decls.now + 4 * size-Term c.get-in-Absorb.result.now < t = omega arith in
    let fits : counts_fit (term.Absorb c.in-Absorb.inner) ≡ true = rw c.in-Absorb.is at c.requires.counted in
    (less, (c.requires.within, ap counts_fit c.get-in-Absorb.ensures.value ∙ sym (counts-Absorb c.in-Absorb.inner) ∙ fits))

pub read-read_scan-requires : goal.read-read_scan-requires
read-read_scan-requires t c =
    let fits : counts_fit (term.Scan c.in-Scan.inner) ≡ true = rw c.in-Scan.is at c.requires.counted in
    (under _ _ _ _ 2 (omega arith) c.decreases (rw (c.in-Scan.is, c.get-in-Scan.ensures.value) (size-Scan c.in-Scan.inner)), (c.requires.within, ap counts_fit c.get-in-Scan.ensures.value ∙ sym (counts-Scan c.in-Scan.inner) ∙ fits))

pub read_call-returns-then-depth-eq0-clause-value : goal.read_call-returns-then-depth-eq0-clause-value
read_call-returns-then-depth-eq0-clause-value t c = c.fails.ensures.fails ∙ sym (call-deep (subject_of c.args.self.now.record) c.args.self.now.decls.now c.args.number c.args.args.now c.args.env.now.pairs c.args.place c.args.depth c.if-depth-eq0.true)

pub read_call-returns-in_default-clause-value : goal.read_call-returns-in_default-clause-value
read_call-returns-in_default-clause-value t c =
    let none : arguments c.args.args.now c.args.env.now.pairs ≡ None = sym c.in_ok-args.ensures.arguments ∙ c.in_default.is in
    c.fails-in_default.ensures.fails ∙ sym (call-unargued (subject_of c.args.self.now.record) c.args.self.now.decls.now c.args.number c.args.args.now c.args.env.now.pairs c.args.place c.args.depth c.if-depth-eq0.false none)

pub search-returns-then-is_ok-clause-value : goal.search-returns-then-is_ok-clause-value
search-returns-then-is_ok-clause-value t c =
    let f = reads c.args.self.now.record c.args.self.now.decls.now c.args.depth c.args.inner.now in
    let ok : is_ok (f c.args.env.now.pairs c.args.place) ≡ true = ap is_ok (sym c.in_ok-first.ensures.value) ∙ sym c.is_ok.ensures.ok ∙ c.if-is_ok.true in
    c.in_ok-first.ensures.value ∙ sym (scan-here (subject_of c.args.self.now.record) f c.args.env.now.pairs c.args.place ok)

pub read_scan-returns-in-Some-clause-value : goal.read_scan-returns-in-Some-clause-value
read_scan-returns-in-Some-clause-value t c =
    let from = c.args.self.now.record in
    c.find_from.ensures.found c.args.env.now.pairs
    ∙ ap (λ (f : Reader). scan (subject_of from) f c.args.env.now.pairs c.args.place)
    (sym (literal-reads from c.args.self.now.decls.now c.args.depth c.args.inner.now c.in-Some.literal.now c.in-Some.ensures.literal))

pub search-loop-at-init : goal.search-loop-at-init
search-loop-at-init t c =
    let f = reads c.args.self.now.record c.args.self.now.decls.now c.args.depth c.args.inner.now in
    let bad : is_ok (f c.args.env.now.pairs c.args.place) ≡ false = ap is_ok (sym c.in_ok-first.ensures.value) ∙ sym c.is_ok.ensures.ok ∙ c.if-is_ok.false in
    record {
      env = c.in_ok-first.ensures.env;
      rest = scan-on (subject_of c.args.self.now.record) f c.args.env.now.pairs c.args.place c.requires.within bad
          ∙ ap (λ last. scan_from c.args.self.now.record.origin (last + 1 - (c.args.place + 1)) f c.args.env.now.pairs c.args.place (c.args.place + 1)) (sym c.last_place-last.ensures.last);
    }

pub search-returns-then-is_ok-2-clause-value : goal.search-returns-then-is_ok-2-clause-value
search-returns-then-is_ok-2-clause-value t c =
    let f = reads c.args.self.now.record c.args.self.now.decls.now c.args.depth c.args.inner.now in
    let here : c.in_ok-reading.reading ≡ f c.args.env.now.pairs c.loop-at.at = rw (← c.loop-at.invariant.env) c.in_ok-reading.ensures.value in
    let ok : is_ok (f c.args.env.now.pairs c.loop-at.at) ≡ true = ap is_ok (sym here) ∙ sym c.is_ok-in-loop-at.ensures.ok ∙ c.if-is_ok-2.true in
    rw here at c.found.ensures.found
    ∙ sym (scan-found c.args.self.now.record.origin f c.args.env.now.pairs c.args.place (c.last_place-last.result + 1) c.loop-at.at c.loop-at-test.true ok)
    ∙ sym c.loop-at.invariant.rest

pub search-loop-at-preserved : goal.search-loop-at-preserved
search-loop-at-preserved t c =
    let f = reads c.args.self.now.record c.args.self.now.decls.now c.args.depth c.args.inner.now in
    let here : c.in_ok-reading.reading ≡ f c.args.env.now.pairs c.loop-at.at = rw (← c.loop-at.invariant.env) c.in_ok-reading.ensures.value in
    let bad : is_ok (f c.args.env.now.pairs c.loop-at.at) ≡ false = ap is_ok (sym here) ∙ sym c.is_ok-in-loop-at.ensures.ok ∙ c.if-is_ok-2.false in
    record {
      env = c.in_ok-reading.ensures.env ∙ c.loop-at.invariant.env;
      rest = c.loop-at.invariant.rest
          ∙ scan-next c.args.self.now.record.origin f c.args.env.now.pairs c.args.place (c.last_place-last.result + 1) c.loop-at.at c.loop-at-test.true bad;
    }

pub search-returns-clause-value : goal.search-returns-clause-value
search-returns-clause-value t c =
    let f = reads c.args.self.now.record c.args.self.now.decls.now c.args.depth c.args.inner.now in
    rw (c.blame-blame.ensures.blame, c.in_ok-first.ensures.value) at c.fails.ensures.fails
    ∙ sym (scan-over c.args.self.now.record.origin f c.args.env.now.pairs c.args.place (c.last_place-last.result + 1) c.loop-at.at c.loop-at-test.false)
    ∙ sym c.loop-at.invariant.rest

pub read_part-base-requires : goal.read_part-base-requires
read_part-base-requires t c =
    let fits : counts_fit (term.Base c.in-Base.base c.in-Base.args) ≡ true = rw c.in-Base.is at c.requires.counted in
    record { labels = sym (counts-Base c.in-Base.base c.in-Base.args) ∙ fits; place = c.requires.within }

pub read_part-read_scan-requires : goal.read_part-read_scan-requires
read_part-read_scan-requires t c =
    let is : c.args.depth * weight c.args.self.now.decls.now + (4 * size-Term c.args.term.now + 1) ≡ t = c.decreases in
    let smaller : size-Term c.get.result.now < size-Term c.args.term.now = rw (c.in-Scan.is, c.get.ensures.value) (size-Scan c.in-Scan.inner) in
    let less : c.args.depth * weight c.args.self.now.decls.now + (4 * size-Term c.get.result.now + 2) < t = omega arith in
    let fits : counts_fit (term.Scan c.in-Scan.inner) ≡ true = rw c.in-Scan.is at c.requires.counted in
    (less, (c.requires.within, ap counts_fit c.get.ensures.value ∙ sym (counts-Scan c.in-Scan.inner) ∙ fits))

pub read_struct-loop-part-init : goal.read_struct-loop-part-init
read_struct-loop-part-init t c =
    let f = reads_part c.args.self.now.record c.args.self.now.decls.now c.args.depth in
    let made = c.in_ok-fields.ensures in
    record {
      done = [];
      parts = refl;
      values = made.values;
      env = refl;
      follows = rw (made.pds, made.place) (follows-start (in_turn (map f c.args.parts.now) c.args.env.now.pairs c.args.place) c.args.place);
      from = rw made.place (omega arith);
      to = rw made.place c.requires.within;
      values_count = made.values_count;
      pds_count = made.pds_count;
      values_room = made.values_room;
      pds_room = made.pds_room;
      within = omega arith;
    }

pub read_struct-loop-part-preserved : goal.read_struct-loop-part-preserved
read_struct-loop-part-preserved t c =
    let f = calls c.args.self.now.record c.args.self.now.decls.now c.args.depth in
    let held = c.loop-part.invariant in
    let part = c.part-item.result in
    let value = c.in_ok-reading.reading.value in
    let next = parts-next (subject_of c.args.self.now.record) f c.args.parts.now c.loop-part.part-index part c.loop-part.env.pairs c.loop-part.fields.place c.loop-part-test.true c.part-item.is in
    let next' = rw (← c.in_ok-reading.ensures.value) at next in
    let follows = rw next' at held.follows in
    let within = c.in_ok-reading.ensures.within in
    let bound = c.in_ok-push.ensures.env ∙ ap (λ env. bind part.name value env) c.in_ok-reading.ensures.env in
    record {
      done = record { part = part; value = value } ∷ held.done;
      parts = take_more c.args.parts.now c.loop-part.part-index part c.loop-part-test.true
          ∙ ap (λ taken. taken ++ get_or c.args.parts.now c.loop-part.part-index part ∷ []) held.parts
          ∙ ap (λ (last : Part). parts_of held.done ++ last ∷ []) (sym c.part-item.is);
      values = c.in_ok-push.ensures.values ∙ ap (λ items. items ++ kept part.name value ∷ []) held.values;
      env = bound ∙ ap (λ env. bind part.name value env) held.env;
      follows = rw (c.in_ok-push.ensures.pds, c.in_ok-push.ensures.place, bound) (follows-push _ _ _ _ _ c.in_ok-reading.reading _ follows);
      from = rw c.in_ok-push.ensures.place (omega (arith, within, held.from));
      to = rw c.in_ok-push.ensures.place within.1;
      values_count = c.in_ok-push.ensures.values_count ∙ ap (λ n. n + 1) held.values_count;
      pds_count = c.in_ok-push.ensures.pds_count ∙ ap (λ n. n + 1) held.pds_count;
      values_room = c.in_ok-push.ensures.values_room ∙ held.values_room;
      pds_room = c.in_ok-push.ensures.pds_room ∙ held.pds_room;
      within = omega (arith, c.loop-part-test.true);
    }

pub read_struct-returns-clause-value : goal.read_struct-returns-clause-value
read_struct-returns-clause-value t c =
    let f = reads_part c.args.self.now.record c.args.self.now.decls.now c.args.depth in
    let held = c.loop-part.invariant in
    let rest = drop-past' c.args.parts.now c.loop-part.part-index c.loop-part-test.false in
    let are : AreDone held.done c.args.env.now.pairs c.args.parts.now c.loop-part.fields.values.items c.loop-part.env.pairs = record {
      parts_are = sym (take_all c.loop-part.part-index c.args.parts.now c.loop-part-test.false) ∙ held.parts;
      values_are = held.values;
      env_is = held.env;
    } in
    (c.into_struct.ensures.node held.done c.args.env.now.pairs are).0
    ∙ sym (follows-struct c.args.self.now.record.origin (in_turn (map f c.args.parts.now) c.args.env.now.pairs c.args.place) c.args.place (values_of held.done) c.loop-part.fields.pds.items c.loop-part.fields.place
    (rw rest at held.follows))

pub read_struct-returns-clause-env : goal.read_struct-returns-clause-env
read_struct-returns-clause-env t c =
    let held = c.loop-part.invariant in
    (c.into_struct.ensures.node held.done c.args.env.now.pairs (record {
      parts_are = sym (take_all c.loop-part.part-index c.args.parts.now c.loop-part-test.false) ∙ held.parts;
      values_are = held.values;
      env_is = held.env;
    })).1

pub read_switch-returns-clause-value : goal.read_switch-returns-clause-value
read_switch-returns-clause-value t c =
    let there : slice_get c.args.cases.now c.in-Some.number ≡ Some c.in-Some-item.case.now = sym c.in-Some-item.ensures.item in
    let number = chosen (argument c.args.e.now c.args.env.now.pairs) (map (λ case. case.key) c.args.cases.now) in
    rw (switch-found (subject_of c.args.self.now.record) (calls c.args.self.now.record c.args.self.now.decls.now c.args.depth) c.args.env.now.pairs c.args.place c.args.cases.now number c.in-Some.number c.in-Some-item.case.now (sym c.in_ok-number.ensures.chosen ∙ c.in-Some.is) there, ← c.in_ok-reading.ensures.value)
    c.branch-reading-2.ensures.branch

pub turn-returns-in_default-clause-turn : goal.turn-returns-in_default-clause-turn
turn-returns-in_default-clause-turn t c =
    sym (turn-without (reads_seq c.args.self.now.record c.args.self.now.decls.now c.args.depth c.args.seq.now) c.args.is_first c.args.env.now.pairs c.args.place
    (sym c.in_ok-begin.ensures.begin ∙ c.in_default.is))

pub turn-returns-clause-turn : goal.turn-returns-clause-turn
turn-returns-clause-turn t c =
    let s = reads_seq c.args.self.now.record c.args.self.now.decls.now c.args.depth c.args.seq.now in
    let element : c.in_ok-element.element ≡ s.elem c.args.env.now.pairs c.in-Some.begin = rw c.in_ok-begin.ensures.env at c.in_ok-element.ensures.value in
    c.of.ensures.turn ∙ ap (λ r. turn_of c.args.is_first c.args.place c.in-Some.begin r) element
    ∙ sym (turn-with s c.args.is_first c.args.env.now.pairs c.args.place c.in-Some.begin (sym c.in_ok-begin.ensures.begin ∙ c.in-Some.is))

pub read_call-returns-in_default-item-clause-value : goal.read_call-returns-in_default-item-clause-value
read_call-returns-in_default-item-clause-value t c =
    let argued : arguments c.args.args.now c.args.env.now.pairs ≡ Some c.in-Some.args = sym c.in_ok-args.ensures.arguments ∙ c.in-Some.is in
    c.fails-in_default-item.ensures.fails
    ∙ sym (call-undeclared (subject_of c.args.self.now.record) c.args.self.now.decls.now c.args.number c.args.args.now c.args.env.now.pairs c.args.place c.args.depth c.in-Some.args c.if-depth-eq0.false argued (sym c.in_default-item.ensures.item))

pub read_call-read-requires : goal.read_call-read-requires
read_call-read-requires t c =
    let there : slice_get c.args.self.now.decls.now c.args.number ≡ Some c.in-Some-item.decl.now = sym c.in-Some-item.ensures.item in
    let is : c.args.depth * weight c.args.self.now.decls.now ≡ t = c.decreases in
    let falls = weight-call c.args.self.now.decls.now c.args.number c.in-Some-item.decl.now c.args.depth c.if-depth-eq0.false there in
    let less : (c.args.depth - 1) * weight c.args.self.now.decls.now + 4 * size-Term c.in-Some-item.decl.now.body < t = rw is at falls in
    (less, (c.requires.within, fit-body c.args.self.now.decls.now c.args.number c.in-Some-item.decl.now c.args.self.now.counted there))

pub read_call-returns-clause-value : goal.read_call-returns-clause-value
read_call-returns-clause-value t c =
    let there : slice_get c.args.self.now.decls.now c.args.number ≡ Some c.in-Some-item.decl.now = sym c.in-Some-item.ensures.item in
    let argued : arguments c.args.args.now c.args.env.now.pairs ≡ Some c.in-Some.args = sym c.in_ok-args.ensures.arguments ∙ c.in-Some.is in
    rw (call-found (subject_of c.args.self.now.record) c.args.self.now.decls.now c.args.number c.args.args.now c.args.env.now.pairs c.args.place c.args.depth c.in-Some.args c.in-Some-item.decl.now c.if-depth-eq0.false argued there, ← c.as_slice.ensures.items, ← c.in_ok-inner.ensures.bound)
    c.read.ensures.value

pub read_seq-elements-init : goal.read_seq-elements-init
read_seq-elements-init t c =
    let s = reads_seq c.args.self.now.record c.args.self.now.decls.now c.args.depth c.args.seq.now in
    rw c.new-run.ensures.empty (record {
      env = refl;
      kept = gathers-start c.args.self.now.record.bytes.now s c.in-Some.size c.args.env.now.pairs c.args.place;
      turns = omega arith;
      from = omega arith;
      to = c.requires.within;
    })

pub read_seq-ending-requires : goal.read_seq-ending-requires
read_seq-ending-requires t c =
    let is : c.args.depth * weight c.args.self.now.decls.now + (4 * size-Seq c.args.seq.now + 3) ≡ t = c.decreases in
    let less : c.args.depth * weight c.args.self.now.decls.now + (4 * size-Seq c.args.seq.now + 2) < t = omega arith in
    (less, (c.elements.invariant.to, c.requires.stop))

pub read_seq-into_array-requires-clause-place : goal.read_seq-into_array-requires-clause-place
read_seq-into_array-requires-clause-place t c = rw c.in_ok-own.ensures.run (omega (arith, c.elements.invariant.to, c.args.self.now.record.bounded))

pub read_seq-returns-in-Ends-clause-value : goal.read_seq-returns-in-Ends-clause-value
read_seq-returns-in-Ends-clause-value t c =
    let s = reads_seq c.args.self.now.record c.args.self.now.decls.now c.args.depth c.args.seq.now in
    let run = c.elements.run in
    let whole = elements c.args.self.now.record.bytes.now s c.in-Some.size c.args.env.now.pairs (turns_from c.args.self.now.record.bytes.now c.args.place) [] c.args.place in
    let sized : size_at s.size c.args.env.now.pairs ≡ Some c.in-Some.size = sym (rw c.as_ref.ensures.value at c.in-Some.ensures.size) in
    let some : length run.values < turns_from c.args.self.now.record.bytes.now c.args.place = omega (arith, c.elements.invariant.turns, c.elements.invariant.to) in
    let ended : ending_at c.args.self.now.record.bytes.now s c.in-Some.size run.values c.args.env.now.pairs run.place ≡ ending.Ends c.in-Ends.own =
    rw c.elements.invariant.env at (sym c.in_ok-own.ensures.ending ∙ c.in-Ends.is) in
    rw c.in_ok-own.ensures.run at c.into_array.ensures.node
    ∙ sym (gathers-ended c.args.self.now.record.bytes.now s c.in-Some.size c.args.env.now.pairs whole c.args.place c.args.self.now.record.origin run.values run.pds run.place c.in-Ends.own some c.elements.invariant.kept ended)
    ∙ sym (seq-sized (subject_of c.args.self.now.record) s c.args.env.now.pairs c.args.place c.in-Some.size sized)

pub read_seq-returns-in-Ends-clause-within : goal.read_seq-returns-in-Ends-clause-within
read_seq-returns-in-Ends-clause-within t c = rw (c.into_array.ensures.node, c.in_ok-own.ensures.run) (c.elements.invariant.from, c.elements.invariant.to)

pub read_seq-returns-in-Ends-clause-env : goal.read_seq-returns-in-Ends-clause-env
read_seq-returns-in-Ends-clause-env t c = c.in_ok-own.ensures.env ∙ c.elements.invariant.env

pub read_seq-returns-in-Undone-clause-value : goal.read_seq-returns-in-Undone-clause-value
read_seq-returns-in-Undone-clause-value t c =
    let s = reads_seq c.args.self.now.record c.args.self.now.decls.now c.args.depth c.args.seq.now in
    let run = c.elements.run in
    let whole = elements c.args.self.now.record.bytes.now s c.in-Some.size c.args.env.now.pairs (turns_from c.args.self.now.record.bytes.now c.args.place) [] c.args.place in
    let sized : size_at s.size c.args.env.now.pairs ≡ Some c.in-Some.size = sym (rw c.as_ref.ensures.value at c.in-Some.ensures.size) in
    let some : length run.values < turns_from c.args.self.now.record.bytes.now c.args.place = omega (arith, c.elements.invariant.turns, c.elements.invariant.to) in
    let on : ending_at c.args.self.now.record.bytes.now s c.in-Some.size run.values c.args.env.now.pairs run.place ≡ ending.GoesOn =
    rw c.elements.invariant.env at (sym c.in_ok-own.ensures.ending ∙ c.in_default-2.is) in
    let turns = rw (c.is_empty.ensures.empty, c.in_ok-own.ensures.run, c.in_ok-own.ensures.env, c.elements.invariant.env) at (sym c.in_ok-cause.ensures.turn ∙ c.in-Undone.is) in
    rw c.in_ok-own.ensures.run at c.into_array-in-Undone.ensures.node
    ∙ sym (gathers-undone c.args.self.now.record.bytes.now s c.in-Some.size c.args.env.now.pairs whole c.args.place c.args.self.now.record.origin run.values run.pds run.place c.in-Undone.cause some c.elements.invariant.kept on turns)
    ∙ sym (seq-sized (subject_of c.args.self.now.record) s c.args.env.now.pairs c.args.place c.in-Some.size sized)

pub read_seq-returns-in-Undone-clause-within : goal.read_seq-returns-in-Undone-clause-within
read_seq-returns-in-Undone-clause-within t c = rw (c.into_array-in-Undone.ensures.node, c.in_ok-own.ensures.run) (c.elements.invariant.from, c.elements.invariant.to)

pub read_seq-returns-in-Undone-clause-env : goal.read_seq-returns-in-Undone-clause-env
read_seq-returns-in-Undone-clause-env t c = c.in_ok-cause.ensures.env ∙ c.in_ok-own.ensures.env ∙ c.elements.invariant.env

pub read_seq-elements-smaller : goal.read_seq-elements-smaller
read_seq-elements-smaller t c =
    let run = c.elements.run in
    let some : length run.values < turns_from c.args.self.now.record.bytes.now c.args.place = omega (arith, c.elements.invariant.turns, c.elements.invariant.to) in
    rw (c.in_ok-push-in-Kept.ensures.pushed, c.in_ok-own.ensures.run) (omega (arith, some, length-append run.values (c.in-Kept.reading.value ∷ [])))

pub read_seq-elements-preserved : goal.read_seq-elements-preserved
read_seq-elements-preserved t c =
    let s = reads_seq c.args.self.now.record c.args.self.now.decls.now c.args.depth c.args.seq.now in
    let run = c.elements.run in
    let whole = elements c.args.self.now.record.bytes.now s c.in-Some.size c.args.env.now.pairs (turns_from c.args.self.now.record.bytes.now c.args.place) [] c.args.place in
    let sized : size_at s.size c.args.env.now.pairs ≡ Some c.in-Some.size = sym (rw c.as_ref.ensures.value at c.in-Some.ensures.size) in
    let some : length run.values < turns_from c.args.self.now.record.bytes.now c.args.place = omega (arith, c.elements.invariant.turns, c.elements.invariant.to) in
    let on : ending_at c.args.self.now.record.bytes.now s c.in-Some.size run.values c.args.env.now.pairs run.place ≡ ending.GoesOn =
    rw c.elements.invariant.env at (sym c.in_ok-own.ensures.ending ∙ c.in_default-2.is) in
    let turns = rw (c.is_empty.ensures.empty, c.in_ok-own.ensures.run, c.in_ok-own.ensures.env, c.elements.invariant.env) at (sym c.in_ok-cause.ensures.turn ∙ c.in-Kept.is) in
    let grows : TurnsWithin c.args.self.now.record.bytes.now (is_empty run.values) run.place (turn.Kept c.in-Kept.reading) =
    rw (c.is_empty.ensures.empty, c.in_ok-own.ensures.run, c.in-Kept.is) at c.in_ok-cause.ensures.within in
    let room = turns-room c.args.self.now.record.bytes.now c.args.place run.values run.place c.in-Kept.reading c.elements.invariant.from c.elements.invariant.turns grows in
    rw (c.in_ok-push-in-Kept.ensures.pushed, c.in_ok-own.ensures.run) (record {
      env = c.in_ok-cause.ensures.env ∙ c.in_ok-own.ensures.env ∙ c.elements.invariant.env;
      kept = gathers-kept c.args.self.now.record.bytes.now s c.in-Some.size c.args.env.now.pairs whole c.args.place run.values run.pds run.place c.in-Kept.reading some c.elements.invariant.kept on turns;
      turns = room;
      from = omega (arith, c.elements.invariant.from, grows.0.0);
      to = grows.0.1;
    })

pub read_switch-read-requires : goal.read_switch-read-requires
read_switch-read-requires t c =
    let there : slice_get c.args.cases.now c.in-Some.number ≡ Some c.in-Some-item.case.now = sym c.in-Some-item.ensures.item in
    let is : c.args.depth * weight c.args.self.now.decls.now + (4 * most size-Case c.args.cases.now + 1) ≡ t = c.decreases in
    let case_size = most-there size-Case c.args.cases.now c.in-Some.number c.in-Some-item.case.now there in
    let term_size = size-in_Case c.in-Some-item.case.now in
    let less : c.args.depth * weight c.args.self.now.decls.now + 4 * size-Term c.in-Some-item.case.now.arm.term < t = omega arith in
    (less, (c.requires.within, all-there (λ case. counts_fit case.arm.term) c.args.cases.now c.in-Some.number c.in-Some-item.case.now c.requires.counted there))

pub ending-returns-then-is_full-clause-ending : goal.ending-returns-then-is_full-clause-ending
ending-returns-then-is_full-clause-ending t c =
    let full : is_full c.args.size (length c.args.run.now.values) ≡ true = ap (λ n. is_full c.args.size n) (sym c.len.ensures.length) ∙ sym c.is_full.ensures.full ∙ c.if-is_full.true in
    sym (ending-full c.args.self.now.record.bytes.now (reads_seq c.args.self.now.record c.args.self.now.decls.now c.args.depth c.args.seq.now) c.args.size c.args.run.now.values c.args.env.now.pairs c.args.run.now.place full)

pub ending-returns-then-is_last-clause-ending : goal.ending-returns-then-is_last-clause-ending
ending-returns-then-is_last-clause-ending t c =
    let full : is_full c.args.size (length c.args.run.now.values) ≡ false = ap (λ n. is_full c.args.size n) (sym c.len.ensures.length) ∙ sym c.is_full.ensures.full ∙ c.if-is_full.false in
    let last : is_last c.args.seq.now.last c.args.seq.now.elts c.args.run.now.values c.args.env.now.pairs ≡ true =
    ap (λ o. is_last o c.args.seq.now.elts c.args.run.now.values c.args.env.now.pairs) (sym c.as_ref.ensures.value) ∙ sym c.is_last-is_last.ensures.last ∙ c.if-is_last.true in
    sym (ending-last c.args.self.now.record.bytes.now (reads_seq c.args.self.now.record c.args.self.now.decls.now c.args.depth c.args.seq.now) c.args.size c.args.run.now.values c.args.env.now.pairs c.args.run.now.place full last)

pub ending-returns-then-stops-clause-ending : goal.ending-returns-then-stops-clause-ending
ending-returns-then-stops-clause-ending t c =
    let full : is_full c.args.size (length c.args.run.now.values) ≡ false = ap (λ n. is_full c.args.size n) (sym c.len.ensures.length) ∙ sym c.is_full.ensures.full ∙ c.if-is_full.false in
    let last : is_last c.args.seq.now.last c.args.seq.now.elts c.args.run.now.values c.args.env.now.pairs ≡ false =
    ap (λ o. is_last o c.args.seq.now.elts c.args.run.now.values c.args.env.now.pairs) (sym c.as_ref.ensures.value) ∙ sym c.is_last-is_last.ensures.last ∙ c.if-is_last.false in
    let stop = rw c.is_last-is_last.ensures.kept at (sym c.in_ok-stops.ensures.stops ∙ c.if-stops.true) in
    ap ending.Ends c.short_of.ensures.cause ∙ sym (ending-stop c.args.self.now.record.bytes.now (reads_seq c.args.self.now.record c.args.self.now.decls.now c.args.depth c.args.seq.now) c.args.size c.args.run.now.values c.args.env.now.pairs c.args.run.now.place full last stop)

pub ending-returns-then-is_end-clause-ending : goal.ending-returns-then-is_end-clause-ending
ending-returns-then-is_end-clause-ending t c =
    let full : is_full c.args.size (length c.args.run.now.values) ≡ false = ap (λ n. is_full c.args.size n) (sym c.len.ensures.length) ∙ sym c.is_full.ensures.full ∙ c.if-is_full.false in
    let last : is_last c.args.seq.now.last c.args.seq.now.elts c.args.run.now.values c.args.env.now.pairs ≡ false =
    ap (λ o. is_last o c.args.seq.now.elts c.args.run.now.values c.args.env.now.pairs) (sym c.as_ref.ensures.value) ∙ sym c.is_last-is_last.ensures.last ∙ c.if-is_last.false in
    let stop = rw c.is_last-is_last.ensures.kept at (sym c.in_ok-stops.ensures.stops ∙ c.if-stops.false) in
    let over = rw c.is_last-is_last.ensures.kept at (sym c.is_end.ensures.end ∙ c.if-is_end.true) in
    ap ending.Ends c.short_of-then-is_end.ensures.cause ∙ sym (ending-over c.args.self.now.record.bytes.now (reads_seq c.args.self.now.record c.args.self.now.decls.now c.args.depth c.args.seq.now) c.args.size c.args.run.now.values c.args.env.now.pairs c.args.run.now.place full last stop over)

pub ending-returns-clause-ending : goal.ending-returns-clause-ending
ending-returns-clause-ending t c =
    let full : is_full c.args.size (length c.args.run.now.values) ≡ false = ap (λ n. is_full c.args.size n) (sym c.len.ensures.length) ∙ sym c.is_full.ensures.full ∙ c.if-is_full.false in
    let last : is_last c.args.seq.now.last c.args.seq.now.elts c.args.run.now.values c.args.env.now.pairs ≡ false =
    ap (λ o. is_last o c.args.seq.now.elts c.args.run.now.values c.args.env.now.pairs) (sym c.as_ref.ensures.value) ∙ sym c.is_last-is_last.ensures.last ∙ c.if-is_last.false in
    let stop = rw c.is_last-is_last.ensures.kept at (sym c.in_ok-stops.ensures.stops ∙ c.if-stops.false) in
    let over = rw c.is_last-is_last.ensures.kept at (sym c.is_end.ensures.end ∙ c.if-is_end.false) in
    sym (ending-on c.args.self.now.record.bytes.now (reads_seq c.args.self.now.record c.args.self.now.decls.now c.args.depth c.args.seq.now) c.args.size c.args.run.now.values c.args.env.now.pairs c.args.run.now.place full last stop over)
