-- The code of a search runs as the search reads, where the code of the term in it does: place by place, up
-- to the first clean reading or the last place, with the cause of the first try in the mark.
use Rattle.std.proofs.Common.{◌≡◌, ◌∙◌, sym, ap, refl, arith, true, false, not, nat_lt, if◌then◌else◌, ℕ, zero, suc, ◌+◌, ◌-◌, ◌≤◌, List, [], ◌∷◌, ◌++◌, length, Option, Some, None}
use Rattle.pads_value.specs.declared.cause.Cause.{Cause}
use Rattle.pads_calc.specs.declared.reading.Reading.{Reading}
use Rattle.pads_calc.specs.declared.term.Term.{Term}
use Rattle.pads_calc.specs.Calculus.{Caller, read}
use Rattle.pads_calc.specs.Readings.{Subject, fails, is_ok, blame}
use Rattle.pads_calc.specs.Wrappers.{found_at, last_place, scan, scan_from}
use Rattle.pads_calc.proofs.Cases.{pick}
use Rattle.pads_calc.proofs.Scans.{scan-none, scan-step}
use Rattle.law_calculus.proofs.SoundReadings.{SoundReader}
use Rattle.pads_image.specs.declared.entry.Entry.{Entry}
use Rattle.pads_image.specs.declared.op.Op.{Op}
use Rattle.pads_image.specs.declared.op.Op.TheVariants as op
use Rattle.pads_image.specs.Blocks.{Block, scan_block, layout}
use Rattle.pads_image.specs.Heights.{Deeper}
use Rattle.pads_image.specs.States.{State, Mark, seen}
use Rattle.pads_image.specs.Steps.{Step, Goes, back_to, cause_or, is_last_place}
use Rattle.law_images.proofs.LevelledTerms.{levelled}
use Rattle.pads_image.proofs.Lengths.{sized}
use Rattle.law_images.proofs.Levels.{below-left, below-right}
use Rattle.law_images.proofs.Places.{StandsAt, first-there, rest-there, left-there, right-there}
use Rattle.law_images.proofs.Reaching.{To, once, join, to-same, seen-marked}
use Rattle.law_images.proofs.Running.{Ready, RunsAs, behind}
use Rattle.law_images.proofs.SwitchesRun.{began-sound}

-- a state over the mark of its own place with a cause, and with another reading
abbrev mark_of : ℕ → Option Cause → Mark
mark_of place cause = record { place = place; cause = cause }

abbrev looking : State → ℕ → Reading → Option Cause → State
looking s q r cause = record s { at_ = q; last = r; marks = mark_of s.last.place cause ∷ s.marks }

no-further : (last j : ℕ) → last ≤ j → not (nat_lt j last) ≡ true
no-further last j over = let past : nat_lt j last ≡ false = grind (arith, over) in rw past refl

goes-further : (last j : ℕ) → j + 1 ≤ last → not (nat_lt j last) ≡ false
goes-further last j more = let inside : nat_lt j last ≡ true = grind (arith, more) in rw inside refl

module _ (code : List Op) (of_entries : List Entry) (subject : Subject) (most : ℕ) (deeper : Deeper) (depth : ℕ) (call : Caller)
    (sound : (t : Term) → SoundReader subject (read subject call t)) where
  module _ (inner : Term) (runs : RunsAs code of_entries subject most deeper depth (layout inner) (read subject call inner)) (p below h : ℕ) (s : State)
      (ready : Ready code of_entries subject most deeper depth ((scan_block (layout inner)).code p) p below h s) where
    abbrev b : Block
    b = layout inner

    abbrev place : ℕ
    place = s.last.place

    abbrev last : ℕ
    last = last_place subject place

    abbrev reader : ℕ → Reading
    reader j = read subject call inner (seen s) j

    abbrev on : Op
    on = op.ScanOn (p + 1)

    abbrev q : ℕ
    q = p + 1 + b.size

    abbrev ended : Reading → State
    ended r = behind s (q + 1) r

    -- the search from `j` on, at which so many places are left behind it
    abbrev search : ℕ → ℕ → Reading
    search places j = scan_from subject.origin places (read subject call inner) (seen s) place j

    -- what comes of a reading at a place
    abbrev looked : Reading → Cause → ℕ → Step
    looked r kept j =
        if is_ok r then Goes (ended (found_at subject.origin place j r))
        else if is_last_place subject place j then Goes (ended (fails subject.origin kept place))
        else Goes (looking s (p + 1) (back_to (j + 1) r) (Some kept))

    abbrev Reached : State → State → Type 0
    Reached t u = To code of_entries subject most t u

    inner-there : StandsAt code (p + 1) (b.code (p + 1) ++ on ∷ [])
    inner-there = rest-there code p op.ScanFrom (b.code (p + 1) ++ on ∷ []) ready.there

    -- one try
    tried : (j : ℕ) (cause : Option Cause) (r : Reading) (t : State) → r.place ≡ j → j ≤ length subject.bytes
        → looked (reader j) (cause_or cause (blame (reader j))) j ≡ Goes t → Reached (looking s (p + 1) r cause) t
    tried j cause r t here within goes =
        let from = looking s (p + 1) r cause in
        let r1 = reader j in
        let u = looking s q r1 cause in
        let kept = cause_or cause (blame r1) in
        let sized_ : p + 1 + length (b.code (p + 1)) ≡ q = ap (λ n. p + 1 + n) (sized inner (p + 1)) in
        let over = below-right deeper most (b.code (p + 1)) (on ∷ []) below (h + 1) (h + 1) ((levelled deeper most inner).level (p + 1) (h + 1)) ready.fits.1 in
        join code of_entries subject most from u t
        (to-same code of_entries subject most from (behind from q (read subject call inner (seen from) r.place)) u
        (ap (λ env. looking s q (read subject call inner env r.place) cause) (seen-marked s (p + 1) r (mark_of place cause ∷ s.marks))
        ∙ ap (λ i. looking s q (reader i) cause) here)
        (runs (p + 1) below (h + 1) from (record {
          at_ = refl;
          deep = ready.deep;
          sane = ready.sane;
          above = ready.above;
          counted = omega (arith, ready.counted);
          within = omega (arith, here, within);
          there = left-there code (p + 1) (b.code (p + 1)) (on ∷ []) inner-there;
          fits = below-left deeper most (b.code (p + 1)) (on ∷ []) below (h + 1) ready.fits.1;
        })))
        (once code of_entries subject most u t q on refl (first-there code q on [] (right-there code (p + 1) (b.code (p + 1)) (on ∷ []) q sized_ inner-there))
        (omega (arith, ready.counted, over.0))
        (ap (λ j. looked r1 kept j) (began-sound subject j r1 (sound inner (seen s) j)) ∙ goes))

    looked-clean : (r : Reading) (kept : Cause) (j : ℕ) → is_ok r ≡ true → looked r kept j ≡ Goes (ended (found_at subject.origin place j r))
    looked-clean r kept j ok = rw ok refl

    looked-over : (r : Reading) (kept : Cause) (j : ℕ) → is_ok r ≡ false → is_last_place subject place j ≡ true → looked r kept j ≡ Goes (ended (fails subject.origin kept place))
    looked-over r kept j bad over = rw (bad, over) refl

    looked-on : (r : Reading) (kept : Cause) (j : ℕ) → is_ok r ≡ false → is_last_place subject place j ≡ false
        → looked r kept j ≡ Goes (looking s (p + 1) (back_to (j + 1) r) (Some kept))
    looked-on r kept j bad more = rw (bad, more) refl

    found-or : (places j : ℕ) (cause : Option Cause) (r : Reading) → r.place ≡ j → j ≤ length subject.bytes
        → (is_ok (reader j) ≡ false → Reached (looking s (p + 1) r cause) (ended (search places (j + 1)))) → Reached (looking s (p + 1) r cause) (ended (search (suc places) j))
    found-or places j cause r here within later =
        let r1 = reader j in
        let found = found_at subject.origin place j r1 in
        to-same code of_entries subject most (looking s (p + 1) r cause) (ended (if is_ok r1 then found else search places (j + 1))) (ended (search (suc places) j))
        (ap (λ r. ended r) (sym (scan-step subject.origin (read subject call inner) (seen s) place places j)))
        (pick (λ x. Reached (looking s (p + 1) r cause) (ended x)) (is_ok r1) found (search places (j + 1))
        (λ ok. tried j cause r (ended found) here within (looked-clean r1 (cause_or cause (blame r1)) j ok)) later)

    -- the tries from `j` on, of which so many are left behind it; the cause is that of the first one
    tries : (places j : ℕ) (cause : Option Cause) (r : Reading) → r.place ≡ j → j ≤ last → last - j ≡ places
        → cause_or cause (blame (reader j)) ≡ blame (reader place) → Reached (looking s (p + 1) r cause) (ended (search (suc places) j))
    tries zero j cause r here before left kept =
        let within : j ≤ length subject.bytes = omega (arith, before) in
        let first = fails subject.origin (blame (reader place)) place in
        found-or zero j cause r here within (λ bad.
        to-same code of_entries subject most (looking s (p + 1) r cause) (ended first) (ended (search zero (j + 1)))
        (ap (λ r. ended r) (sym (scan-none subject.origin (read subject call inner) (seen s) place (j + 1))))
        (tried j cause r (ended first) here within
        (looked-over (reader j) (cause_or cause (blame (reader j))) j bad (no-further last j (omega (arith, left)))
        ∙ ap (λ kept. Goes (ended (fails subject.origin kept place))) kept)))
    tries (suc places) j cause r here before left kept =
        let within : j ≤ length subject.bytes = omega (arith, before) in
        let r1 = reader j in
        let given = cause_or cause (blame r1) in
        let t = looking s (p + 1) (back_to (j + 1) r1) (Some given) in
        let more : j + 1 ≤ last = omega (arith, left) in
        found-or (suc places) j cause r here within (λ bad.
        join code of_entries subject most (looking s (p + 1) r cause) t (ended (search (suc places) (j + 1)))
        (tried j cause r t here within (looked-on r1 given j bad (goes-further last j more)))
        (tries places (j + 1) (Some given) (back_to (j + 1) r1) refl more (omega (arith, left)) kept))

    searched : Reached s (behind s (p + (b.size + 2)) (scan subject (read subject call inner) (seen s) place))
    searched =
        let left = last - place in
        let t = looking s (p + 1) s.last None in
        let r = search (suc left) place in
        let next : q + 1 ≡ p + (b.size + 2) = omega arith in
        to-same code of_entries subject most s (ended r) (behind s (p + (b.size + 2)) r) (ap (λ a. behind s a r) next)
        (join code of_entries subject most s t (ended r)
        (once code of_entries subject most s t p op.ScanFrom ready.at_ (first-there code p op.ScanFrom (b.code (p + 1) ++ on ∷ []) ready.there)
        (omega (arith, ready.counted, ready.fits.0)) (ap (λ a. Goes (looking s (a + 1) s.last None)) ready.at_))
        (tries left place None s.last refl (omega (arith, ready.within)) refl refl))

  pub scan-runs : (inner : Term) → RunsAs code of_entries subject most deeper depth (layout inner) (read subject call inner)
      → RunsAs code of_entries subject most deeper depth (scan_block (layout inner)) (λ env i. scan subject (read subject call inner) env i)
  scan-runs inner runs p below h s ready = searched inner runs p below h s ready
