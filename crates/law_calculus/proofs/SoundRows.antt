-- The row of a record is sound where its bytes lie in its extent.
use Rattle.std.proofs.Common.{◌≡◌, sym, ap, subst, arith, ℕ, ◌+◌, ◌≤◌, nat_lt, List, [], ◌∷◌, length, true, false, Option, None, Some}
use Rattle.std.proofs.lemmas.Bool.{ltb-true}
use Rattle.pads_value.specs.Cuts.{Cut}
use Rattle.pads_value.specs.declared.cause.Cause.{Cause}
use Rattle.pads_value.specs.declared.cause.Cause.TheVariants as cause
use Rattle.pads_value.specs.declared.descriptor.Own.{Own}
use Rattle.pads_value.specs.declared.descriptor.Span.{Span}
use Rattle.pads_value.specs.declared.descriptor.Pd.{out-Pd}
use Rattle.pads_value.specs.declared.frame.Mark.{Mark}
use Rattle.pads_value.specs.declared.frame.Mark.TheVariants as mark
use Rattle.pads_value.specs.declared.value.Val.TheVariants as val
use Rattle.pads_calc.specs.declared.decl.Decl.{Decl}
use Rattle.pads_calc.specs.declared.decl.Shape.{Shape}
use Rattle.pads_calc.specs.declared.reading.Reading.{Reading}
use Rattle.pads_calc.specs.Readings.{faulty}
use Rattle.pads_calc.specs.Rows.{deepest, type_of, body_reading, kept_reading, extra, read_row, unread_row, row_by, row_of, subject_of_cut}
use Rattle.pads_calc.proofs.Cases.{pick}
use Rattle.law_calculus.specs.Soundness.{InOrder, CountsAreSound, SpansAreSound}
use Rattle.law_calculus.proofs.SoundNodes.{AllCounts, AllSpans, head-counts, head-spans, span-head}
use Rattle.law_calculus.proofs.SoundReadings.{Sound, sound-bare}
use Rattle.law_calculus.proofs.SoundTerms.{sound-caller}

module _ (scan : ℕ) (cut : Cut) where
  abbrev Body : Reading → Type 0
  Body r = Sound (subject_of_cut scan cut) 0 r

  sound-rest : (place : ℕ) → place ≤ length cut.bytes → Sound (subject_of_cut scan cut) place (faulty cut.first cause.ExtraBeforeEor place (length cut.bytes))
  sound-rest place before = sound-bare (subject_of_cut scan cut) (Some (record { cause = cause.ExtraBeforeEor; fails = false })) val.Missing place (length cut.bytes) before (λ _. omega arith)

  extra-counts : (place : ℕ) → AllCounts (extra cut place)
  extra-counts place =
      pick AllCounts (nat_lt place (length cut.bytes)) ((faulty cut.first cause.ExtraBeforeEor place (length cut.bytes)).pd ∷ []) []
      (λ more. ((sound-rest place (omega (arith, ltb-true place (length cut.bytes) more))).counts, tt)) (λ _. tt)

  extra-spans : (place : ℕ) → AllSpans (extra cut place)
  extra-spans place =
      pick AllSpans (nat_lt place (length cut.bytes)) ((faulty cut.first cause.ExtraBeforeEor place (length cut.bytes)).pd ∷ []) []
      (λ more. ((sound-rest place (omega (arith, ltb-true place (length cut.bytes) more))).spans, tt)) (λ _. tt)

  extra-order : (place : ℕ) → place ≤ length cut.bytes → cut.first + length cut.bytes ≤ cut.end → InOrder (cut.first + place) (extra cut place) cut.end
  extra-order place before inside =
      pick (λ kids. InOrder (cut.first + place) kids cut.end) (nat_lt place (length cut.bytes))
      ((faulty cut.first cause.ExtraBeforeEor place (length cut.bytes)).pd ∷ []) []
      (λ more.
      let h = sound-rest place before in
      let begin = ap (λ (s : Span). s.begin) h.span in
      let end = ap (λ (s : Span). s.end) h.span in
      (omega (arith, begin), omega (arith, begin, end), omega (arith, end)))
      (λ _. omega arith)

  row-counts : (number : ℕ) (own : Option Own) (r : Reading) → Body r → CountsAreSound (read_row number cut own r).pd
  row-counts number own r h = head-counts own (record { begin = cut.first; end = cut.end }) (r.pd ∷ extra cut r.place) (h.counts, extra-counts r.place)

  row-spans : (number : ℕ) (own : Option Own) (r : Reading) → Body r → cut.first + length cut.bytes ≤ cut.end → SpansAreSound (read_row number cut own r).pd
  row-spans number own r h inside =
      let begin = ap (λ (s : Span). s.begin) h.span in
      let end = ap (λ (s : Span). s.end) h.span in
      let before : r.place ≤ length cut.bytes = h.within (omega arith) in
      let behind = subst (λ at. InOrder at (extra cut r.place) cut.end) (sym end) (extra-order r.place before inside) in
      head-spans own (record { begin = cut.first; end = cut.end }) (r.pd ∷ extra cut r.place) (h.spans, extra-spans r.place)
      (omega (arith, begin), omega (arith, begin, end), behind)

  unread-counts : (number : ℕ) (cause : Cause) → CountsAreSound (unread_row number cut cause).pd
  unread-counts number cause =
      head-counts (Some (record { cause = cause; fails = true })) (record { begin = cut.first; end = cut.end }) [] tt

  unread-spans : (number : ℕ) (cause : Cause) → cut.first + length cut.bytes ≤ cut.end → SpansAreSound (unread_row number cut cause).pd
  unread-spans number cause inside =
      head-spans (Some (record { cause = cause; fails = true })) (record { begin = cut.first; end = cut.end }) [] tt (omega arith)

  marked-counts : (m : Mark) (number : ℕ) (r : Reading) → Body r → CountsAreSound (row_by m number cut r).pd
  marked-counts mark.Plain number r h = row-counts number None r h
  marked-counts mark.Short number r h = row-counts number (Some (record { cause = cause.RecordShort; fails = false })) r h
  marked-counts mark.Long number r h = unread-counts number cause.RecordLong
  marked-counts mark.Broken number r h = unread-counts number cause.RecordBroken

  marked-spans : (m : Mark) (number : ℕ) (r : Reading) → Body r → cut.first + length cut.bytes ≤ cut.end → SpansAreSound (row_by m number cut r).pd
  marked-spans mark.Plain number r h inside = row-spans number None r h inside
  marked-spans mark.Short number r h inside = row-spans number (Some (record { cause = cause.RecordShort; fails = false })) r h inside
  marked-spans mark.Long number r h inside = unread-spans number cause.RecordLong inside
  marked-spans mark.Broken number r h inside = unread-spans number cause.RecordBroken inside

  marked-span : (m : Mark) (number : ℕ) (r : Reading) → (out-Pd (row_by m number cut r).pd).span ≡ record { begin = cut.first; end = cut.end }
  marked-span mark.Plain number r = span-head None (record { begin = cut.first; end = cut.end }) (r.pd ∷ extra cut r.place)
  marked-span mark.Short number r = span-head (Some (record { cause = cause.RecordShort; fails = false })) (record { begin = cut.first; end = cut.end }) (r.pd ∷ extra cut r.place)
  marked-span mark.Long number r = span-head (Some (record { cause = cause.RecordLong; fails = true })) (record { begin = cut.first; end = cut.end }) []
  marked-span mark.Broken number r = span-head (Some (record { cause = cause.RecordBroken; fails = true })) (record { begin = cut.first; end = cut.end }) []

  sound-body_reading : (decls : List Decl) (number : ℕ) → Body (body_reading decls scan number cut)
  sound-body_reading decls number = sound-caller (subject_of_cut scan cut) decls deepest number [] [] 0

  -- erasing leaves the descriptor and the place
  sound-kept : (decls : List Decl) (number : ℕ) → Body (kept_reading decls scan number cut)
  sound-kept decls number =
      let h = sound-body_reading decls number in
      record { counts = h.counts; spans = h.spans; span = h.span; forth = h.forth; within = h.within }

pub sound-row_counts : (decls : List Decl) (shape : Shape) (scan number : ℕ) (cut : Cut) → CountsAreSound (row_of decls shape scan number cut).pd
sound-row_counts decls shape scan number cut =
    marked-counts scan cut cut.mark number (kept_reading decls scan (type_of shape number) cut) (sound-kept scan cut decls (type_of shape number))

pub sound-row_spans : (decls : List Decl) (shape : Shape) (scan number : ℕ) (cut : Cut) → cut.first + length cut.bytes ≤ cut.end
    → SpansAreSound (row_of decls shape scan number cut).pd
sound-row_spans decls shape scan number cut inside =
    marked-spans scan cut cut.mark number (kept_reading decls scan (type_of shape number) cut) (sound-kept scan cut decls (type_of shape number)) inside

pub sound-row_span : (decls : List Decl) (shape : Shape) (scan number : ℕ) (cut : Cut)
    → (out-Pd (row_of decls shape scan number cut).pd).span ≡ record { begin = cut.first; end = cut.end }
sound-row_span decls shape scan number cut = marked-span scan cut cut.mark number (kept_reading decls scan (type_of shape number) cut)
