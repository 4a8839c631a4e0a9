-- One step of a search that found nothing at a place: it goes on, or ends.
use Rattle.std.proofs.Common.{◌≡◌, ◌∙◌, ap, refl, arith, ℕ, ◌+◌, ◌<◌, ◌≤◌, Bool, true, false, if◌then◌else◌, not, nat_lt, List, ◌∷◌, Some}
use Rattle.std.proofs.lemmas.Bool.{lt-ltb}
use Rattle.pads_value.specs.declared.cause.Cause.{Cause}
use Rattle.pads_value.specs.declared.cause.Cause.TheVariants as cause
use Rattle.pads_value.specs.declared.descriptor.Pd.{out-Pd, out-roll-Pd}
use Rattle.pads_value.specs.declared.value.Val.TheVariants as val
use Rattle.pads_value.specs.Header.{with_cause}
use Rattle.pads_calc.specs.Readings.{Subject, blame, fails, is_ok}
use Rattle.pads_calc.specs.Wrappers.{absorb_of, last_place}
use Rattle.pads_image.specs.States.{Mark, State}
use Rattle.pads_image.specs.Steps.{Goes, back_to, began, cause_or, is_last_place, scan_step}

module _ (origin i : ℕ) (c : Cause) where
  pub fails-bad : is_ok (fails origin c i) ≡ false
  fails-bad = simp out-roll-Pd

  pub fails-began : began origin (fails origin c i) ≡ i
  fails-began = let out : (out-Pd (fails origin c i).pd).span.begin ≡ origin + i = simp out-roll-Pd in omega (arith, out)

  pub fails-absorbed : absorb_of (fails origin c i) ≡ fails origin c i
  fails-absorbed = ap (λ (b : Bool). record (fails origin c i) { value = if b then val.Unit else val.Missing }) fails-bad

-- the last place of a search, and one before it
not-before : (last j : ℕ) → last ≤ j → not (nat_lt j last) ≡ true
not-before last j over = let past : nat_lt j last ≡ false = grind (arith, over) in rw past refl

module _ (subject : Subject) (i j : ℕ) where
  pub ends-there : last_place subject i ≤ j → is_last_place subject i j ≡ true
  ends-there over = not-before (last_place subject i) j over

  pub goes-there : j < last_place subject i → is_last_place subject i j ≡ false
  goes-there more = let inside : nat_lt j (last_place subject i) ≡ true = lt-ltb j (last_place subject i) more in rw inside refl

-- a search that goes on
pub scan-on : (subject : Subject) (to : ℕ) (s : State) (m : Mark) (marks : List Mark) → is_ok s.last ≡ false → is_last_place subject m.place (began subject.origin s.last) ≡ false
    → scan_step subject to s (m ∷ marks)
    ≡ Goes (record s { at_ = to; last = back_to (began subject.origin s.last + 1) s.last; marks = (record m { cause = Some (cause_or m.cause (blame s.last)) }) ∷ marks })
scan-on subject to s m marks bad more =
    let at_ = began subject.origin s.last in
    let kept = cause_or m.cause (blame s.last) in
    let on = Goes (record s { at_ = to; last = back_to (at_ + 1) s.last; marks = (record m { cause = Some kept }) ∷ marks }) in
    let end = Goes (record s { at_ = s.at_ + 1; last = fails subject.origin kept m.place; marks = marks }) in
    let found = Goes (record s {
      at_ = s.at_ + 1;
      last = if nat_lt m.place at_ then record s.last { pd = with_cause cause.Skipped (subject.origin + m.place) s.last.pd } else s.last;
      marks = marks;
    }) in
    ap (λ (b : Bool). if b then found else if is_last_place subject m.place at_ then end else on) bad ∙ ap (λ (b : Bool). if b then end else on) more

-- and one that ends
pub scan-ends : (subject : Subject) (to : ℕ) (s : State) (m : Mark) (marks : List Mark) → is_ok s.last ≡ false → is_last_place subject m.place (began subject.origin s.last) ≡ true
    → scan_step subject to s (m ∷ marks) ≡ Goes (record s { at_ = s.at_ + 1; last = fails subject.origin (cause_or m.cause (blame s.last)) m.place; marks = marks })
scan-ends subject to s m marks bad over =
    let at_ = began subject.origin s.last in
    let kept = cause_or m.cause (blame s.last) in
    let on = Goes (record s { at_ = to; last = back_to (at_ + 1) s.last; marks = (record m { cause = Some kept }) ∷ marks }) in
    let end = Goes (record s { at_ = s.at_ + 1; last = fails subject.origin kept m.place; marks = marks }) in
    let found = Goes (record s {
      at_ = s.at_ + 1;
      last = if nat_lt m.place at_ then record s.last { pd = with_cause cause.Skipped (subject.origin + m.place) s.last.pd } else s.last;
      marks = marks;
    }) in
    ap (λ (b : Bool). if b then found else if is_last_place subject m.place at_ then end else on) bad ∙ ap (λ (b : Bool). if b then end else on) over
