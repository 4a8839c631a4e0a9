-- A search of a literal that stands at none of its places: its steps lead behind it, and no byte is taken.
use Rattle.std.proofs.Common.{◌≡◌, ◌∙◌, ap, arith, ℕ, zero, suc, ◌+◌, ◌-◌, ◌<◌, ◌≤◌, true, false, List, ◌∷◌, Option, Some, None}
use Rattle.pads_value.specs.declared.cause.Cause.{Cause}
use Rattle.pads_value.specs.declared.cause.Cause.TheVariants as cause
use Rattle.pads_calc.specs.declared.reading.Reading.{Reading}
use Rattle.pads_calc.specs.Readings.{Subject, blame, fails}
use Rattle.pads_calc.specs.Wrappers.{last_place}
use Rattle.pads_image.specs.declared.entry.Entry.{Entry}
use Rattle.pads_image.specs.declared.op.Op.{Op}
use Rattle.pads_image.specs.declared.op.Op.TheVariants as op
use Rattle.pads_image.specs.States.{Mark, State}
use Rattle.pads_image.specs.Steps.{Goes, back_to, cause_or, is_last_place, step}
use Rattle.pads_steps.specs.Searches.{StandsNowhere, stands_at}
use Rattle.pads_steps.proofs.Searches.{misses-there}
use Rattle.pads_idle.specs.Idle.{SeeksNone}
use Rattle.pads_idle.proofs.Scanning.{ends-there, fails-absorbed, fails-bad, fails-began, goes-there, scan-ends, scan-on}
use Rattle.pads_idle.proofs.Walking.{To, along, by, join, once}

module _ (code : List Op) (of_entries : List Entry) (subject : Subject) (place : ℕ) (s : State) (h : SeeksNone code subject place s.at_) where
  -- steps lead behind the search, with a reading that failed where it began
  pub record Failed (t : State) : Type 0 where
    pub kept : Cause
    pub walk : To code of_entries subject t (record s { at_ = s.at_ + 4; last = fails subject.origin kept place })

  abbrev end : ℕ
  end = last_place subject place

  abbrev missing : ℕ → Reading
  missing j = fails subject.origin cause.MissingLiteral j

  -- in the search, at an address
  abbrev sought : ℕ → Option Cause → Reading → State
  sought address c last = record s { at_ = address; last = last; marks = (record { place = place; cause = c }) ∷ s.marks }

  abbrev kept : Option Cause → ℕ → Cause
  kept c j = cause_or c (blame (missing j))

  -- it isn't here
  looks : (c : Option Cause) (last : Reading) → stands_at subject.bytes h.literal last.place ≡ false
      → To code of_entries subject (sought (s.at_ + 1) c last) (sought (s.at_ + 3) c (missing last.place))
  looks c last misses =
      let j = last.place in
      let t = sought (s.at_ + 1) c last in
      let u = sought (s.at_ + 2) c (missing j) in
      let v = sought (s.at_ + 3) c (missing j) in
      let one : s.at_ + 1 + 1 ≡ s.at_ + 2 = omega arith in
      let two : s.at_ + 2 + 1 ≡ s.at_ + 3 = omega arith in
      let reads : step of_entries subject code t ≡ Goes u
      = by code of_entries subject t u (op.Lit h.literal) h.lit
      (ap (λ (r : Reading). Goes (sought (s.at_ + 1 + 1) c r)) (misses-there subject h.literal j misses) ∙ ap (λ p. Goes (sought p c (missing j))) one) in
      let drops : step of_entries subject code u ≡ Goes v
      = by code of_entries subject u v op.Absorb h.absorb
      (ap (λ (r : Reading). Goes (sought (s.at_ + 2 + 1) c r)) (fails-absorbed subject.origin j cause.MissingLiteral) ∙ ap (λ p. Goes (sought p c (missing j))) two) in
      along code of_entries subject t u v reads (once code of_entries subject u v drops)

  -- this was the last place
  ends : (c : Option Cause) (j : ℕ) → end ≤ j → Failed (sought (s.at_ + 3) c (missing j))
  ends c j over =
      let t = sought (s.at_ + 3) c (missing j) in
      let u = record s { at_ = s.at_ + 4; last = fails subject.origin (kept c j) place } in
      let further : s.at_ + 3 + 1 ≡ s.at_ + 4 = omega arith in
      let m : Mark = record { place = place; cause = c } in
      let over_ : is_last_place subject place _ ≡ true
      = ap (λ k. is_last_place subject place k) (fails-began subject.origin j cause.MissingLiteral) ∙ ends-there subject place j over in record {
        kept = kept c j;
        walk =
            once code of_entries subject t u
            (by code of_entries subject t u (op.ScanOn (s.at_ + 1)) h.on
            (scan-ends subject (s.at_ + 1) t m s.marks (fails-bad subject.origin j cause.MissingLiteral) over_
            ∙ ap (λ p. Goes (record s { at_ = p; last = fails subject.origin (kept c j) place })) further));
      }

  -- or it goes on
  goes-on : (c : Option Cause) (j : ℕ) → j < end
      → To code of_entries subject (sought (s.at_ + 3) c (missing j)) (sought (s.at_ + 1) (Some (kept c j)) (back_to (j + 1) (missing j)))
  goes-on c j more =
      let t = sought (s.at_ + 3) c (missing j) in
      let u = sought (s.at_ + 1) (Some (kept c j)) (back_to (j + 1) (missing j)) in
      let m : Mark = record { place = place; cause = c } in
      let here = fails-began subject.origin j cause.MissingLiteral in
      let more_ : is_last_place subject place _ ≡ false = ap (λ k. is_last_place subject place k) here ∙ goes-there subject place j more in
      once code of_entries subject t u
      (by code of_entries subject t u (op.ScanOn (s.at_ + 1)) h.on
      (scan-on subject (s.at_ + 1) t m s.marks (fails-bad subject.origin j cause.MissingLiteral) more_
      ∙ ap (λ k. Goes (sought (s.at_ + 1) (Some (kept c j)) (back_to (k + 1) (missing j)))) here))

  seeks : (d : ℕ) (c : Option Cause) (last : Reading) → last.place + d ≡ end → StandsNowhere subject.bytes h.literal last.place (end + 1)
      → Failed (sought (s.at_ + 1) c last)
  seeks zero c last is none =
      let j = last.place in
      let f = ends c j (omega (arith, is)) in record {
        kept = f.kept;
        walk =
            join code of_entries subject (sought (s.at_ + 1) c last) (sought (s.at_ + 3) c (missing j)) (record s { at_ = s.at_ + 4; last = fails subject.origin f.kept place })
            (looks c last (none j (omega arith) (omega (arith, is)))) f.walk;
      }
  seeks (suc d) c last is none =
      let j = last.place in
      let again = back_to (j + 1) (missing j) in
      let f = seeks d (Some (kept c j)) again (omega (arith, is)) (λ k from to. none k (omega (arith, from)) to) in
      let a = sought (s.at_ + 1) c last in
      let b = sought (s.at_ + 3) c (missing j) in
      let t = sought (s.at_ + 1) (Some (kept c j)) again in
      let z = record s { at_ = s.at_ + 4; last = fails subject.origin f.kept place } in record {
        kept = f.kept;
        walk =
            join code of_entries subject a b z (looks c last (none j (omega arith) (omega (arith, is))))
            (join code of_entries subject b t z (goes-on c j (omega (arith, is))) f.walk);
      }

  pub seeks-none : s.last.place ≡ place → Failed s
  seeks-none here =
      let t = sought (s.at_ + 1) None s.last in
      let room : s.last.place + (end - s.last.place) ≡ end = omega (arith, here, h.within) in
      let f = seeks (end - s.last.place) None s.last room (λ k from to. h.nowhere k (omega (arith, from, here)) to) in
      let begins : step of_entries subject code s ≡ Goes t
      = by code of_entries subject s t op.ScanFrom h.begins
      (ap (λ i. Goes (record s { at_ = s.at_ + 1; marks = (record { place = i; cause = None }) ∷ s.marks })) here) in record {
        kept = f.kept;
        walk = along code of_entries subject s t (record s { at_ = s.at_ + 4; last = fails subject.origin f.kept place }) begins f.walk;
      }
