-- An array reads soundly where its elements and its separator do.
use Rattle.std.proofs.Common.{sym, subst, arith, ℕ, ◌≤◌, List, ◌∷◌, [], length, Bool, true, false, Option, None, Some}
use Rattle.std.specs.Prelude.{⊤}
use Rattle.pads_value.specs.declared.cause.Cause.TheVariants as cause
use Rattle.pads_value.specs.declared.value.Val.TheVariants as val
use Rattle.pads_expr.specs.Value.{Pairs}
use Rattle.pads_calc.specs.declared.reading.Reading.{Reading}
use Rattle.pads_calc.specs.Arrays.{SeqReader, Elements, elements, array_of, soft, turns_from, size_at, sized, seq_of}
use Rattle.pads_calc.specs.Readings.{Subject, Reader, values}
use Rattle.pads_calc.proofs.KeptTurns.{Begins, KeptAt, each-turn}
use Rattle.law_calculus.proofs.SoundReadings.{Sound, SoundReader, Behind, Follow, sound-fails, sound-run}

module _ (subject : Subject) where
  abbrev pub SoundOption : Option Reader → Type 0
  SoundOption None = ⊤
  SoundOption (Some reader) = SoundReader subject reader

  -- an element begins at a place that isn't before its turn's
  begins-behind : (env : Pairs) (sep : Option Reader) → SoundOption sep → (is_first : Bool) (j begin : ℕ) → Begins env sep is_first j begin
      → (j ≤ begin) × (j ≤ length subject.bytes → begin ≤ length subject.bytes)
  begins-behind env None h is_first j begin at = (omega (arith, at), λ inside. omega (arith, at, inside))
  begins-behind env (Some sep) h true j begin at = (omega (arith, at), λ inside. omega (arith, at, inside))
  begins-behind env (Some sep) h false j begin at =
      (omega (arith, at.1, (h env j).forth), λ inside. omega (arith, at.1, (h env j).within inside))

  follow-kept : (s : SeqReader) → SoundReader subject s.elem → SoundOption s.sep → (env : Pairs) (is_first : Bool) (j : ℕ) (r : Reading) (rest : List Reading)
      → KeptAt s env is_first j r → Follow subject r.place rest → Follow subject j (r ∷ rest)
  follow-kept s elem sep env is_first j r rest kept later =
      let behind = begins-behind env s.sep sep is_first j kept.begin kept.begins in
      let here : Behind subject j kept.begin r = record {
        forth = behind.0;
        within = behind.1;
        sound = subst (Sound subject kept.begin) (sym kept.is) (elem env kept.begin);
      } in
      ((kept.begin, here), later)

  follow-elements : (s : SeqReader) → SoundReader subject s.elem → SoundOption s.sep → (size : Option ℕ) (env : Pairs) (i : ℕ)
      → Follow subject i (elements subject.bytes s size env (turns_from subject.bytes i) [] i).rest
  follow-elements s elem sep size env i =
      each-turn subject.bytes s size env (Follow subject) (λ j. tt) (follow-kept s elem sep env) (turns_from subject.bytes i) [] i

  sound-array : (e : Elements) (i : ℕ) → Follow subject i e.rest → Sound subject i (array_of subject.origin e i)
  sound-array e i h = sound-run subject (soft e.own) (val.Array (values e.rest)) i e.rest h

  sound-sized : (s : SeqReader) → SoundReader subject s.elem → SoundOption s.sep → (size : Option (Option ℕ)) (env : Pairs) (i : ℕ)
      → Sound subject i (sized subject s size env i)
  sound-sized s elem sep None env i = sound-fails subject cause.ArrayBound i
  sound-sized s elem sep (Some size) env i =
      sound-array (elements subject.bytes s size env (turns_from subject.bytes i) [] i) i (follow-elements s elem sep size env i)

  pub sound-seq : (s : SeqReader) → SoundReader subject s.elem → SoundOption s.sep → (env : Pairs) (i : ℕ) → Sound subject i (seq_of subject s env i)
  sound-seq s elem sep env i = sound-sized s elem sep (size_at s.size env) env i
