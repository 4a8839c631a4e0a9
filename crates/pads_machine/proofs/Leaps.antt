-- A search of a literal where it doesn't stand: the steps that find so at each place lead to a place further on.
use Rattle.std.proofs.Common.{◌≡◌, ◌∙◌, sym, ap, arith, ℕ, zero, suc, ◌+◌, ◌-◌, ◌<◌, ◌≤◌, false, List, ◌∷◌, ⊎_elim, Some, slice_get}
use Rattle.pads_value.specs.declared.cause.Cause.{Cause}
use Rattle.pads_value.specs.declared.cause.Cause.TheVariants as cause
use Rattle.pads_calc.specs.declared.reading.Reading.{Reading}
use Rattle.pads_calc.specs.Readings.{Subject, fails}
use Rattle.pads_calc.specs.Wrappers.{last_place}
use Rattle.pads_image.specs.declared.entry.Entry.{Entry}
use Rattle.pads_image.specs.declared.op.Op.{Op}
use Rattle.pads_image.specs.declared.op.Op.TheVariants as op
use Rattle.pads_image.specs.Answers.{Reaches}
use Rattle.pads_image.specs.States.{Mark, State, entries}
use Rattle.pads_image.specs.Steps.{Goes, back_to, does_there, is_last_place, scan_step, step}
use Rattle.pads_machine.specs.Ran.{IsSearch}
use Rattle.pads_steps.specs.Searches.{StandsNowhere, stands_at}
use Rattle.pads_steps.proofs.Searches.{misses-there}
use Rattle.pads_idle.proofs.Scanning.{fails-absorbed, fails-bad, fails-began, goes-there, scan-on}

module _ (code : List Op) (of_entries : List Entry) (subject : Subject) (most : ℕ) (literal : List ℕ) (place : ℕ) (c : Cause) (rest : List Mark) where
  -- the search goes on at a state
  pub record Searching (s : State) : Type 0 where
    pub search_ : IsSearch code s.at_ literal
    pub marks : s.marks ≡ (record { place = place; cause = Some c }) ∷ rest
    pub fits : entries s ≤ most

  abbrev missing : ℕ → Reading
  missing i = fails subject.origin cause.MissingLiteral i

  -- the same state, further on
  abbrev pub at_place : ℕ → State → State
  at_place i s = record s { last = back_to i (missing (i - 1)) }

  module _ (s : State) (h : Searching s) (more : s.last.place < last_place subject place) (misses : stands_at subject.bytes literal s.last.place ≡ false) where
    abbrev i : ℕ
    i = s.last.place

    abbrev read_to : ℕ → State
    read_to p = record s { at_ = p; last = missing i }

    lit-goes : step of_entries subject code s ≡ Goes (read_to (s.at_ + 1))
    lit-goes =
        ap (λ o. does_there of_entries subject o s) h.search_.0
        ∙ ap (λ (r : Reading). Goes (record s { at_ = s.at_ + 1; last = r })) (misses-there subject literal i misses)

    scan-goes : (p : ℕ) → slice_get code p ≡ Some (op.ScanOn s.at_) → step of_entries subject code (read_to p) ≡ Goes (record s { last = back_to (i + 1) (missing i) })
    scan-goes p there =
        let at_ = fails-began subject.origin i cause.MissingLiteral in
        let not_last : is_last_place subject place i ≡ false = goes-there subject place i more in
        ap (λ o. does_there of_entries subject o (read_to p)) there
        ∙ ap (λ (marks : List Mark). scan_step subject s.at_ (read_to p) marks) h.marks
        ∙ scan-on subject s.at_ (read_to p) (record { place = place; cause = Some c }) rest (fails-bad subject.origin i cause.MissingLiteral)
        (ap (λ k. is_last_place subject place k) at_ ∙ not_last)
        ∙ ap (λ k. Goes (record s { last = back_to (k + 1) (missing i); marks = (record { place = place; cause = Some c }) ∷ rest })) at_
        ∙ ap (λ (marks : List Mark). Goes (record s { last = back_to (i + 1) (missing i); marks = marks })) (sym h.marks)

    absorb-goes : slice_get code (s.at_ + 1) ≡ Some op.Absorb → step of_entries subject code (read_to (s.at_ + 1)) ≡ Goes (read_to (s.at_ + 2))
    absorb-goes there =
        let next : s.at_ + 1 + 1 ≡ s.at_ + 2 = omega arith in
        ap (λ o. does_there of_entries subject o (read_to (s.at_ + 1))) there
        ∙ ap (λ (r : Reading). Goes (record s { at_ = s.at_ + 1 + 1; last = r })) (fails-absorbed subject.origin i cause.MissingLiteral)
        ∙ ap (λ p. Goes (read_to p)) next

    -- one place further
    one-turn : (u : State) → Reaches code of_entries subject most (record s { last = back_to (i + 1) (missing i) }) u → Reaches code of_entries subject most s u
    one-turn u on =
        ⊎_elim
        (λ there. record { steps = suc (suc on.steps); run = (h.fits, read_to (s.at_ + 1), lit-goes, (h.fits, record s { last = back_to (i + 1) (missing i) }, scan-goes (s.at_ + 1) there, on.run)) })
        (λ there. record {
          steps = suc (suc (suc on.steps));
          run = (
            h.fits,
            read_to (s.at_ + 1),
            lit-goes,
            (h.fits, read_to (s.at_ + 2), absorb-goes there.0, (h.fits, record s { last = back_to (i + 1) (missing i) }, scan-goes (s.at_ + 2) there.1, on.run)),
          );
        })
        h.search_.1

  pub leaps : (d : ℕ) (s : State) (end : ℕ) → end ≡ s.last.place + suc d → end ≤ last_place subject place → Searching s → StandsNowhere subject.bytes literal s.last.place end
      → Reaches code of_entries subject most s (at_place end s)
  leaps zero s end is within h none =
      let last : end - 1 ≡ s.last.place = omega (arith, is) in
      let next : end ≡ s.last.place + 1 = omega (arith, is) in
      let same : at_place end s ≡ record s { last = back_to (s.last.place + 1) (missing s.last.place) } =
      ap (λ k. record s { last = back_to end (missing k) }) last ∙ ap (λ k. record s { last = back_to k (missing s.last.place) }) next in
      one-turn s h (omega (arith, is, within)) (none s.last.place (omega arith) (omega (arith, is))) (at_place end s)
      (record { steps = 0; run = sym same })
  leaps (suc d) s end is within h none =
      let t : State = record s { last = back_to (s.last.place + 1) (missing s.last.place) } in
      one-turn s h (omega (arith, is, within)) (none s.last.place (omega arith) (omega (arith, is))) (at_place end s)
      (leaps d t end (omega (arith, is)) within (record { search_ = h.search_; marks = h.marks; fits = h.fits })
      (λ k from to. none k (omega (arith, from)) to))
