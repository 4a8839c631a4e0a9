-- An array is one of what its elements read as.
use Rattle.std.proofs.Common.{◌≡◌, ◌∙◌, sym, refl, subst, ℕ, true, List, [], map, Option, Some, None}
use Rattle.std.proofs.lemmas.Bool.{and_from}
use Rattle.pads_value.specs.declared.value.Val.{Val}
use Rattle.pads_expr.specs.Value.{Pairs}
use Rattle.pads_calc.specs.declared.reading.Reading.{Reading}
use Rattle.pads_calc.specs.declared.term.Term.{Term}
use Rattle.pads_calc.specs.Arrays.{SeqReader, elements, turns_from, size_at, sized, seq_of}
use Rattle.pads_calc.specs.Readings.{Subject, values}
use Rattle.pads_calc.proofs.KeptTurns.{each-turn}
use Rattle.law_calculus.specs.Sorts.{Sort, Array, sort_of}
use Rattle.law_calculus.specs.Values.{has_sort, each_element}
use Rattle.law_calculus.proofs.Values.{has-Missing, has-Array}

module _ (declared : List Sort) (sort : Sort) where
  abbrev Of : Reading → Type 0
  Of r = has_sort declared r.value sort ≡ true

  abbrev AllOf : List Reading → Type 0
  AllOf readings = each_element declared (map (has_sort declared) (values readings)) sort ≡ true

  elements-have : (bytes : List ℕ) (s : SeqReader) → ((env : Pairs) (i : ℕ) → Of (s.elem env i)) → (size : Option ℕ) (env : Pairs) (turns : ℕ) (before : List Val) (j : ℕ)
      → AllOf (elements bytes s size env turns before j).rest
  elements-have bytes s h size env turns before j =
      each-turn bytes s size env (λ j readings. AllOf readings) (λ j. refl)
      (λ is_first j r rest kept later. and_from (has_sort declared r.value sort) _ (subst Of (sym kept.is) (h env kept.begin)) later) turns before j

module _ (declared : List Sort) (subject : Subject) (elem : Term) (s : SeqReader) where
  sized-has : ((env : Pairs) (i : ℕ) → has_sort declared (s.elem env i).value (sort_of declared elem) ≡ true) → (size : Option (Option ℕ)) (env : Pairs) (i : ℕ)
      → has_sort declared (sized subject s size env i).value (Array elem) ≡ true
  sized-has h None env i = has-Missing declared (Array elem)
  sized-has h (Some size) env i =
      has-Array declared (values (elements subject.bytes s size env (turns_from subject.bytes i) [] i).rest) elem
      ∙ elements-have declared (sort_of declared elem) subject.bytes s h size env (turns_from subject.bytes i) [] i

  pub seq-has : ((env : Pairs) (i : ℕ) → has_sort declared (s.elem env i).value (sort_of declared elem) ≡ true) → (env : Pairs) (i : ℕ)
      → has_sort declared (seq_of subject s env i).value (Array elem) ≡ true
  seq-has h env i = sized-has h (size_at s.size env) env i
