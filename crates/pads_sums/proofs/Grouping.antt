-- The samples of a list, value by value: each value as often as it comes, in the order of first coming.
-- They have the same distinct samples as the list, and as many of them pass any test.
use Rattle.std.proofs.Common.{◌≡◌, ◌∙◌, sym, ap, refl, ℕ, zero, suc, ◌+◌, Bool, true, false, cond, not, ◌||◌, true≢false, List, [], ◌∷◌, ◌++◌, arith}
use Rattle.std.specs.Cmp.{signed_Decides}
use Rattle.std.specs.List.{count_by, filter}
use Rattle.std.proofs.Math.ListN.{replicate}
use Rattle.std.proofs.lemmas.Slice.Eq.{bytes_eq-Decides}
use Rattle.pads_sums.specs.Adding.{Pairs}
use Rattle.pads_sums.specs.Samples.{Sample, num, text, same}
use Rattle.pads_sums.specs.Distinct.{distinct, occurrences}
use Rattle.pads_sums.proofs.Lists.{count_append, count_cons}
use Rattle.pads_sums.proofs.Members.{Apart}
use Rattle.pads_sums.proofs.DistinctLaws.{same_equiv, is_in, in_distinct}
use Rattle.pads_sums.proofs.AddingLaws.{distinct_apart, occurs_none, paired}

-- samples that are the same value are equal
pub same_is : (x y : Sample) → same x y ≡ true → x ≡ y
same_is (num a) (num b) is = ap num ((signed_Decides a b).0 is)
same_is (num a) (text b) is = absurd (true≢false (sym is))
same_is (text a) (num b) is = absurd (true≢false (sym is))
same_is (text a) (text b) is = ap text ((bytes_eq-Decides a b).0 is)

-- pairs as samples
abbrev pub spread : Pairs → List Sample
spread [] = []
spread (pair ∷ pairs) = replicate pair.1 pair.0 ++ spread pairs

-- one value, so many times
module _ (test : Sample → Bool) (sample : Sample) where
  none-times : (b : Bool) → ◌≡◌ {A = ℕ} 0 (cond b 0 0)
  none-times true = refl
  none-times false = refl

  more-times : (b : Bool) (n : ℕ) → cond b 1 0 + cond b n 0 ≡ cond b (suc n) 0
  more-times true n = omega arith
  more-times false n = refl

  pub count_times : (n : ℕ) → count_by test (replicate n sample) ≡ cond (test sample) n 0
  count_times zero = none-times (test sample)
  count_times (suc n) =
      count_cons test sample (replicate n sample) ∙ ap (λ k. cond (test sample) 1 0 + k) (count_times n) ∙ more-times (test sample) n

-- how many samples pass, by their values and how often each comes
module _ (test : Sample → Bool) where
  abbrev pub passing : (Sample → ℕ) → List Sample → ℕ
  passing f [] = 0
  passing f (value ∷ values) = cond (test value) (f value) 0 + passing f values

  pub count_spread : (f : Sample → ℕ) (values : List Sample) → count_by test (spread (paired f values)) ≡ passing f values
  count_spread f [] = refl
  count_spread f (value ∷ values) =
      count_append test (replicate (f value) value) (spread (paired f values))
      ∙ (λ i. count_times test value (f value) i + count_spread f values i)

  -- those of one value, and the others
  module _ (f : Sample → ℕ) (y : Sample) where
    abbrev pub others_than : List Sample → List Sample
    others_than values = filter (λ other. not (same y other)) values

    abbrev pub here : Bool → ℕ
    here there = cond there (cond (test y) (f y) 0) 0

    split-here : (d : Sample) (values : List Sample) → same y d ≡ true → is_in d values ≡ false
        → passing f values ≡ here (is_in y values) + passing f (others_than values)
        → cond (test d) (f d) 0 + passing f values ≡ cond (test y) (f y) 0 + passing f (others_than values)
    split-here d values is once rest =
        let equal : y ≡ d = same_is y d is in
        let none : is_in y values ≡ false = ap (λ x. is_in x values) equal ∙ once in
        let left : passing f values ≡ 0 + passing f (others_than values) = rest ∙ ap (λ b. here b + passing f (others_than values)) none in
        let only : passing f values ≡ passing f (others_than values) = omega (arith, left) in
        (λ i. cond (test (sym equal i)) (f (sym equal i)) 0 + only i)

    split-step : (d : Sample) (values : List Sample) (b : Bool) → same y d ≡ b → is_in d values ≡ false
        → passing f values ≡ here (is_in y values) + passing f (others_than values)
        → cond (test d) (f d) 0 + passing f values ≡ here (b || is_in y values) + passing f (cond (not b) (d ∷ others_than values) (others_than values))
    split-step d values true is once rest = split-here d values is once rest
    split-step d values false is once rest = omega (arith, rest)

    pub passing_split : (values : List Sample) → Apart same values → passing f values ≡ here (is_in y values) + passing f (others_than values)
    passing_split [] apart = refl
    passing_split (d ∷ values) apart = split-step d values (same y d) refl apart.0 (passing_split values apart.1)

  -- one more sample of a value that isn't among these
  module _ (y : Sample) (ys : List Sample) where
    same-step : (d : Sample) (b : Bool) → same y d ≡ b → not b ≡ true → occurrences (y ∷ ys) d ≡ occurrences ys d
    same-step d true is differs = absurd (true≢false (sym differs))
    same-step d false is differs =
        let other : same d y ≡ false = same_equiv.symm d y ∙ is in
        let nothing : 0 + occurrences ys d ≡ occurrences ys d = omega arith in
        count_cons (same d) y ys ∙ ap (λ b. cond b 1 0 + occurrences ys d) other ∙ nothing

    kept-step : (d : Sample) (values : List Sample) (b : Bool) → same y d ≡ b
        → passing (occurrences (y ∷ ys)) (filter (λ other. not (same y other)) values) ≡ passing (occurrences ys) (filter (λ other. not (same y other)) values)
        → passing (occurrences (y ∷ ys)) (cond (not b) (d ∷ filter (λ other. not (same y other)) values) (filter (λ other. not (same y other)) values))
        ≡ passing (occurrences ys) (cond (not b) (d ∷ filter (λ other. not (same y other)) values) (filter (λ other. not (same y other)) values))
    kept-step d values true is rest = rest
    kept-step d values false is rest = (λ i. cond (test d) (same-step d false is refl i) 0 + rest i)

    others-kept : (values : List Sample) → passing (occurrences (y ∷ ys)) (filter (λ other. not (same y other)) values) ≡ passing (occurrences ys) (filter (λ other. not (same y other)) values)
    others-kept [] = refl
    others-kept (d ∷ values) = kept-step d values (same y d) refl (others-kept values)

    first-step : (b there : Bool) (n : ℕ) → (there ≡ false → n ≡ 0) → cond b 1 0 + cond there (cond b n 0) 0 ≡ cond b (1 + n) 0
    first-step true true n none = refl
    first-step true false n none = let zero_of = none refl in omega (arith, zero_of)
    first-step false true n none = refl
    first-step false false n none = refl

    first-count : occurrences (y ∷ ys) y ≡ 1 + occurrences ys y
    first-count = count_cons (same y) y ys ∙ ap (λ b. cond b 1 0 + occurrences ys y) (same_equiv.refl y)

    count-step : count_by test ys ≡ passing (occurrences ys) (distinct ys) → count_by test (y ∷ ys) ≡ passing (occurrences (y ∷ ys)) (distinct (y ∷ ys))
    count-step rest =
        let all = passing_split (occurrences ys) y (distinct ys) (distinct_apart ys) in
        let first = first-step (test y) (is_in y (distinct ys)) (occurrences ys y) (λ none. occurs_none y ys (sym (in_distinct y ys) ∙ none)) in
        let counted = count_cons test y ys in
        let same_first : cond (test y) (occurrences (y ∷ ys) y) 0 ≡ cond (test y) (1 + occurrences ys y) 0 = ap (λ n. cond (test y) n 0) first-count in
        let same_others = others-kept (distinct ys) in
        omega (arith, rest, all, first, counted, same_first, same_others)

  -- The samples that pass are those of the values that pass.
  pub count_values : (ys : List Sample) → count_by test ys ≡ passing (occurrences ys) (distinct ys)
  count_values [] = refl
  count_values (y ∷ ys) = count-step y ys (count_values ys)

-- The same samples value by value are as many.
pub count_grouped : (test : Sample → Bool) (ys : List Sample) → count_by test (spread (paired (occurrences ys) (distinct ys))) ≡ count_by test ys
count_grouped test ys = count_spread test (occurrences ys) (distinct ys) ∙ sym (count_values test ys)
