-- Readings that are sound: what the rules of the calculus keep of each.
use Rattle.std.proofs.Common.{◌≡◌, ◌∙◌, sym, ap, subst, arith, ℕ, ◌+◌, ◌≤◌, List, [], ◌∷◌, length, true, Option, Some}
use Rattle.std.specs.Prelude.{⊤}
use Rattle.pads_value.specs.declared.cause.Cause.{Cause}
use Rattle.pads_value.specs.declared.descriptor.Own.{Own}
use Rattle.pads_value.specs.declared.descriptor.Span.{Span}
use Rattle.pads_value.specs.declared.descriptor.Pd.{Pd, out-Pd}
use Rattle.pads_value.specs.declared.value.Val.{Val}
use Rattle.pads_value.specs.declared.value.Val.TheVariants as val
use Rattle.pads_value.specs.Header.{with_cause}
use Rattle.pads_expr.specs.Value.{Pairs}
use Rattle.pads_calc.specs.declared.reading.Reading.{Reading}
use Rattle.pads_calc.specs.Readings.{Subject, Reader, node, fails, is_ok, pds, end_of}
use Rattle.law_calculus.specs.Soundness.{InOrder, CountsAreSound, SpansAreSound}
use Rattle.law_calculus.proofs.SoundNodes.{AllCounts, AllSpans, head-counts, head-spans, caused-counts, caused-spans, span-head, span-caused}

module _ (subject : Subject) where
  -- a reading from `i` on: its descriptor is sound and lies from `i` to where the reading ends, which is
  -- not before `i`, nor behind the record's end where `i` isn't
  pub record Sound (i : ℕ) (r : Reading) : Type 0 where
    pub counts : CountsAreSound r.pd
    pub spans : SpansAreSound r.pd
    pub span : (out-Pd r.pd).span ≡ record { begin = subject.origin + i; end = subject.origin + r.place }
    pub forth : i ≤ r.place
    pub within : i ≤ length subject.bytes → r.place ≤ length subject.bytes

  abbrev pub SoundReader : Reader → Type 0
  SoundReader reader = (env : Pairs) (i : ℕ) → Sound i (reader env i)

  pub sound-node : (own : Option Own) (value : Val) (i place : ℕ) (kids : List Pd) → AllCounts kids → AllSpans kids
      → InOrder (subject.origin + i) kids (subject.origin + place) → i ≤ place → (i ≤ length subject.bytes → place ≤ length subject.bytes)
      → Sound i (node subject.origin own value i place kids)
  sound-node own value i place kids counts spans ordered forth within =
      let span : Span = record { begin = subject.origin + i; end = subject.origin + place } in
      record {
        counts = head-counts own span kids counts;
        spans = head-spans own span kids spans ordered;
        span = span-head own span kids;
        forth = forth;
        within = within;
      }

  -- without kids
  pub sound-bare : (own : Option Own) (value : Val) (i place : ℕ) → i ≤ place → (i ≤ length subject.bytes → place ≤ length subject.bytes)
      → Sound i (node subject.origin own value i place [])
  sound-bare own value i place forth within = sound-node own value i place [] tt tt (omega arith) forth within

  pub sound-fails : (cause : Cause) (i : ℕ) → Sound i (fails subject.origin cause i)
  sound-fails cause i = sound-bare (Some (record { cause = cause; fails = true })) val.Missing i i (omega arith) (λ h. h)

  -- readings that follow one another from `i` on, with or without bytes between them
  pub record Behind (i j : ℕ) (r : Reading) : Type 0 where
    pub forth : i ≤ j
    pub within : i ≤ length subject.bytes → j ≤ length subject.bytes
    pub sound : Sound j r

  abbrev pub Follow : ℕ → List Reading → Type 0
  Follow i [] = ⊤
  Follow i (r ∷ readings) = ((j : ℕ) × Behind i j r) × Follow r.place readings

  follow-counts : (i : ℕ) (readings : List Reading) → Follow i readings → AllCounts (pds readings)
  follow-counts i [] h = tt
  follow-counts i (r ∷ readings) h = (h.0.1.sound.counts, follow-counts r.place readings h.1)

  follow-spans : (i : ℕ) (readings : List Reading) → Follow i readings → AllSpans (pds readings)
  follow-spans i [] h = tt
  follow-spans i (r ∷ readings) h = (h.0.1.sound.spans, follow-spans r.place readings h.1)

  follow-forth : (i : ℕ) (readings : List Reading) → Follow i readings → i ≤ end_of i readings
  follow-forth i [] h = omega arith
  follow-forth i (r ∷ readings) h =
      omega (arith, h.0.1.forth, h.0.1.sound.forth, follow-forth r.place readings h.1)

  follow-within : (i : ℕ) (readings : List Reading) → Follow i readings → i ≤ length subject.bytes → end_of i readings ≤ length subject.bytes
  follow-within i [] h within = within
  follow-within i (r ∷ readings) h within = follow-within r.place readings h.1 (h.0.1.sound.within (h.0.1.within within))

  follow-order : (i : ℕ) (readings : List Reading) → Follow i readings → InOrder (subject.origin + i) (pds readings) (subject.origin + end_of i readings)
  follow-order i [] h = omega arith
  follow-order i (r ∷ readings) h =
      let from = h.0.1 in
      let begin = ap (λ (s : Span). s.begin) from.sound.span in
      let end = ap (λ (s : Span). s.end) from.sound.span in (
        omega (arith, begin, from.forth),
        omega (arith, begin, end, from.sound.forth),
        subst (λ at. InOrder at (pds readings) (subject.origin + end_of r.place readings)) (sym end) (follow-order r.place readings h.1),
      )

  pub sound-run : (own : Option Own) (value : Val) (i : ℕ) (readings : List Reading) → Follow i readings
      → Sound i (node subject.origin own value i (end_of i readings) (pds readings))
  sound-run own value i readings h =
      sound-node own value i (end_of i readings) (pds readings) (follow-counts i readings h) (follow-spans i readings h)
      (follow-order i readings h) (follow-forth i readings h) (follow-within i readings h)

  -- the next reading begins where the last one ended
  pub at_once : (i : ℕ) (r : Reading) → Sound i r → (j : ℕ) × Behind i j r
  at_once i r h = (i, record { forth = omega arith; within = λ h. h; sound = h })

  -- a clean reading that gets a cause, and a span from `i` on
  pub sound-caused : (cause : Cause) (i j : ℕ) (r : Reading) → i ≤ j → (i ≤ length subject.bytes → j ≤ length subject.bytes) → Sound j r → is_ok r ≡ true
      → Sound i (record r { pd = with_cause cause (subject.origin + i) r.pd })
  sound-caused cause i j r forth within h ok =
      let begin = ap (λ (s : Span). s.begin) h.span in
      record {
        counts = caused-counts cause (subject.origin + i) r.pd h.counts ok;
        spans = caused-spans cause (subject.origin + i) r.pd h.spans (omega (arith, begin));
        span = span-caused cause (subject.origin + i) r.pd ∙ ap (λ (s : Span). let from_here : Span = record { begin = subject.origin + i; end = s.end } in from_here) h.span;
        forth = omega (arith, h.forth);
        within = λ inside. h.within (within inside);
      }
