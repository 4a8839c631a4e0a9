-- Instructions that are done at once: their steps lead to the same state. These are the five of a literal
-- that is a part of a struct and stands where it is looked for, and a base type with what keeps it as a part.
use Rattle.std.proofs.Common.{◌≡◌, ◌∙◌, sym, ap, refl, subst, arith, ℕ, zero, suc, ◌+◌, ◌≤◌, Bool, true, false, if◌then◌else◌, nat_lt, List, ◌∷◌, length, Option, Some, None, slice_get}
use Rattle.std.proofs.lemmas.Bool.{le-ltb}
use Rattle.pads_value.specs.declared.cause.Cause.TheVariants as cause
use Rattle.pads_value.specs.declared.descriptor.Pd.{out-Pd, out-roll-Pd}
use Rattle.pads_value.specs.declared.value.Val.TheVariants as val
use Rattle.pads_value.specs.Header.{with_cause}
use Rattle.pads_calc.specs.declared.reading.Reading.{Reading}
use Rattle.pads_expr.specs.declared.expr.Expr.{Expr}
use Rattle.pads_dispatch.specs.declared.base.Base.{Base}
use Rattle.pads_calc.specs.Arguments.{arguments}
use Rattle.pads_calc.specs.Leaves.{base_of, lit_of}
use Rattle.pads_calc.specs.Readings.{Subject, blame, fails, is_ok, leaf}
use Rattle.pads_calc.proofs.Cases.{pick}
use Rattle.pads_image.specs.declared.entry.Entry.{Entry}
use Rattle.pads_image.specs.declared.op.Op.{Op}
use Rattle.pads_image.specs.declared.op.Op.TheVariants as op
use Rattle.pads_image.specs.States.{Mark, State, entries, seen}
use Rattle.pads_image.specs.Steps.{Goes, Step, back_to, began, cause_or, does, does_there, is_last_place, mark_at, part_step, scan_step, step}
use Rattle.pads_steps.specs.Searches.{stands_at}
use Rattle.pads_steps.proofs.Searches.{absorbs}
use Rattle.pads_machine.specs.declared.step.Next.{Next}
use Rattle.pads_machine.specs.declared.step.Next.TheVariants as next
use Rattle.pads_machine.specs.Ran.{Advances, AsksNothing, GoesWithin, IsLiteralPart, Leads, Tells}
use Rattle.pads_machine.proofs.Halts.{at-op, may_ask, no-more}
use Rattle.pads_idle.proofs.Scanning.{fails-began}

-- a search that finds something where it began
pub scan-finds : (subject : Subject) (to : ℕ) (s : State) (m : Mark) (marks : List Mark) → is_ok s.last ≡ true → began subject.origin s.last ≡ m.place
    → scan_step subject to s (m ∷ marks) ≡ Goes (record s { at_ = s.at_ + 1; marks = marks })
scan-finds subject to s m marks ok here =
    let at_ = began subject.origin s.last in
    let kept = cause_or m.cause (blame s.last) in
    let on = Goes (record s { at_ = to; last = back_to (at_ + 1) s.last; marks = (record m { cause = Some kept }) ∷ marks }) in
    let end = Goes (record s { at_ = s.at_ + 1; last = fails subject.origin kept m.place; marks = marks }) in
    let late : Reading = record s.last { pd = with_cause cause.Skipped (subject.origin + m.place) s.last.pd } in
    let found : ℕ → Step = λ k. Goes (record s { at_ = s.at_ + 1; last = if nat_lt m.place k then late else s.last; marks = marks }) in
    let same : nat_lt m.place m.place ≡ false = le-ltb m.place m.place (omega arith) in
    ap (λ (b : Bool). if b then found at_ else if is_last_place subject m.place at_ then end else on) ok
    ∙ ap found here
    ∙ ap (λ (b : Bool). Goes (record s { at_ = s.at_ + 1; last = if b then late else s.last; marks = marks })) same

-- one instruction as steps
pub advances-so : (code : List Op) (of_entries : List Entry) (subject : Subject) (most : ℕ) (made : Next) (s t : State) (instruction : Op) → slice_get code s.at_ ≡ Some instruction
    → Tells made (does of_entries subject instruction s) s t → Advances code of_entries subject most made s t
advances-so code of_entries subject most next.Goes s t instruction there told =
    record { next_ = t; goes = at-op code of_entries subject most s instruction there ∙ told; more = no-more code of_entries subject most t }
advances-so code of_entries subject most next.Searches s t instruction there told =
    record { next_ = t; goes = at-op code of_entries subject most s instruction there ∙ told; more = no-more code of_entries subject most t }
advances-so code of_entries subject most next.Halts s t instruction there told = (at-op code of_entries subject most s instruction there ∙ told.0, told.1)
advances-so code of_entries subject most next.Asks s t instruction there told = absurd told

-- what an instruction itself comes to asks nothing
pub asks-nothing : (found : Next) (made : Step) (s t : State) → Tells found made s t → AsksNothing found
asks-nothing next.Goes made s t told = tt
asks-nothing next.Searches made s t told = tt
asks-nothing next.Halts made s t told = tt
asks-nothing next.Asks made s t told = absurd told

-- what asks may ask
pub asked : (asking : Bool) (found : Next) → found ≡ next.Asks → (asking ≡ false → AsksNothing found) → may_ask asking ≡ 1
asked true found is nothing = refl
asked false found is nothing = let there = nothing refl in absurd (subst AsksNothing is there)

-- a base type, and behind it what keeps it as a part
module _ (code : List Op) (of_entries : List Entry) (subject : Subject) (most : ℕ) (s : State) (base : Base) (args : List Expr) (name : Option ℕ) where
  abbrev base-reading : Reading
  base-reading = base_of subject base (arguments args (seen s)) s.last.place

  pub base-leads : (u : State) (r : Reading) → slice_get code s.at_ ≡ Some (op.Base base args) → slice_get code (s.at_ + 1) ≡ Some (op.Part name)
      → GoesWithin most (does of_entries subject (op.Base base args) s) → r ≡ base-reading
      → part_step subject.origin name (record s { at_ = s.at_ + 1; last = r }) s.nodes ≡ Goes u → Leads code of_entries subject most s u
  base-leads u r there part within read kept =
      let t : State = record s { at_ = s.at_ + 1; last = base-reading } in
      let keeps : step of_entries subject code t ≡ Goes u =
      ap (λ o. does_there of_entries subject o t) part
      ∙ ap (λ (r : Reading). part_step subject.origin name (record s { at_ = s.at_ + 1; last = r }) s.nodes) (sym read)
      ∙ kept in
      record {
        next_ = t;
        goes = ap (λ o. does_there of_entries subject o s) there;
        more = record { steps = suc zero; run = (within, u, keeps, refl) };
      }

module _ (code : List Op) (of_entries : List Entry) (subject : Subject) (most : ℕ) (literal : List ℕ) (s : State) (there : IsLiteralPart code s.at_ literal)
    (within : GoesWithin most (does of_entries subject op.ScanFrom s)) where
  abbrev i : ℕ
  i = s.last.place

  abbrev r : Reading
  r = lit_of subject literal i

  -- while it is looked for
  abbrev looking : ℕ → Reading → State
  looking p last = record s { at_ = p; last = last; marks = mark_at i ∷ s.marks }

  -- and behind that
  abbrev found : State
  found = record s { at_ = s.at_ + 3 + 1; last = r }

  r-began : began subject.origin r ≡ i
  r-began =
      let out : (out-Pd (leaf subject.origin val.Unit i (i + length literal)).pd).span.begin ≡ subject.origin + i = simp out-roll-Pd in
      pick (λ r. began subject.origin r ≡ i) (stands_at subject.bytes literal i) (leaf subject.origin val.Unit i (i + length literal)) (fails subject.origin cause.MissingLiteral i)
      (λ _. omega (arith, out)) (λ _. fails-began subject.origin i cause.MissingLiteral)

  notes : step of_entries subject code s ≡ Goes (looking (s.at_ + 1) s.last)
  notes = ap (λ o. does_there of_entries subject o s) there.0

  reads-it : step of_entries subject code (looking (s.at_ + 1) s.last) ≡ Goes (looking (s.at_ + 2) r)
  reads-it =
      let further : s.at_ + 1 + 1 ≡ s.at_ + 2 = omega arith in
      ap (λ o. does_there of_entries subject o (looking (s.at_ + 1) s.last)) there.1 ∙ ap (λ p. Goes (looking p r)) further

  drops-it : step of_entries subject code (looking (s.at_ + 2) r) ≡ Goes (looking (s.at_ + 3) r)
  drops-it =
      let further : s.at_ + 2 + 1 ≡ s.at_ + 3 = omega arith in
      ap (λ o. does_there of_entries subject o (looking (s.at_ + 2) r)) there.2
      ∙ ap (λ (x : Reading). Goes (looking (s.at_ + 2 + 1) x)) (absorbs subject literal i)
      ∙ ap (λ p. Goes (looking p r)) further

  finds-it : is_ok r ≡ true → step of_entries subject code (looking (s.at_ + 3) r) ≡ Goes found
  finds-it ok =
      ap (λ o. does_there of_entries subject o (looking (s.at_ + 3) r)) there.3
      ∙ scan-finds subject (s.at_ + 1) (looking (s.at_ + 3) r) (mark_at i) s.marks ok r-began

  noted : entries (looking (s.at_ + 1) s.last) ≤ most
  noted = within

  before : entries s ≤ most
  before = omega (arith, noted)

  pub literal-leads : (u : State) (x : Reading) → x ≡ r → is_ok x ≡ true → part_step subject.origin None (record s { at_ = s.at_ + 3 + 1; last = x }) s.nodes ≡ Goes u
      → Leads code of_entries subject most s u
  literal-leads u x read ok kept =
      let further : s.at_ + 3 + 1 ≡ s.at_ + 4 = omega arith in
      let ok_there : is_ok r ≡ true = ap (λ (x : Reading). is_ok x) (sym read) ∙ ok in
      let keeps : step of_entries subject code found ≡ Goes u =
      ap (λ o. does_there of_entries subject o found) (ap (λ p. slice_get code p) further ∙ there.4)
      ∙ ap (λ (x : Reading). part_step subject.origin None (record s { at_ = s.at_ + 3 + 1; last = x }) s.nodes) (sym read)
      ∙ kept in
      record {
        next_ = looking (s.at_ + 1) s.last;
        goes = notes;
        more = record {
          steps = suc (suc (suc (suc zero)));
          run = (noted, looking (s.at_ + 2) r, reads-it, (noted, looking (s.at_ + 3) r, drops-it, (noted, found, finds-it ok_there, (before, u, keeps, refl))));
        };
      }
