-- What is kept of two lists of samples one after the other, from what is kept of each: the values of the
-- second are counted one after the other, each with all its occurrences.
use Rattle.std.proofs.Common.{◌≡◌, ◌∙◌, sym, ap, refl, ℕ, zero, suc, ◌+◌, ◌-◌, ◌^◌, ◌≤◌, ◌<◌, Bool, true, false, cond, not, ◌||◌, ◌&&◌, true≢false, List, [], ◌∷◌, ◌++◌, length, append_assoc, Option, None, arith}
use Rattle.std.specs.List.{count_by, filter, list_any, list_all}
use Rattle.std.proofs.Math.ListN.{replicate}
use Rattle.std.proofs.lemmas.List.{append-nil, length-append, length-replicate}
use Rattle.std.proofs.lemmas.List.Elements.{filter_agree}
use Rattle.std.proofs.lemmas.List.Sums.{length-filter}
use Rattle.std.proofs.lemmas.List.Folds.{list_all-append}
use Rattle.pads_sums.specs.Distinct.{distinct, occurrences, others, tracked, within}
use Rattle.pads_sums.specs.Merging.{Held, joined, one_joined}
use Rattle.pads_sums.specs.Samples.{Sample, same}
use Rattle.pads_sums.proofs.AddingLaws.{distinct_apart, others_more, paired, tracked_more}
use Rattle.pads_sums.proofs.DistinctLaws.{same_equiv, distinct_append, is_in, new_to}
use Rattle.pads_sums.proofs.Grouping.{count_grouped, count_times, spread}
use Rattle.pads_sums.proofs.Lists.{both, count_append, count_cons, filter_all, filter_both, map_same}
use Rattle.pads_sums.proofs.Members.{Apart}
use Rattle.pads_sums.proofs.SampleKinds.{new_is_last}
use Rattle.pads_sums.proofs.SuitLaws.{suits}

-- one value, so many times, before other samples
module _ (sample : Sample) where
  abbrev differs : Sample → Bool
  differs other = not (same sample other)

  twice : (b : Bool) → (b && b) ≡ b
  twice true = refl
  twice false = refl

  twice-left : (values : List Sample) → filter differs (sample ∷ filter differs values) ≡ filter differs values
  twice-left values =
      (let gone : not (same sample sample) ≡ false = ap not (same_equiv.refl sample) in ap (λ b. cond b (sample ∷ filter differs (filter differs values)) (filter differs (filter differs values))) gone)
      ∙ filter_both differs differs values ∙ filter_agree (λ x. differs x && differs x) differs (λ x. twice (differs x)) values

  pub distinct_times : (n : ℕ) (xs : List Sample) → distinct (replicate (suc n) sample ++ xs) ≡ sample ∷ filter differs (distinct xs)
  distinct_times zero xs = refl
  distinct_times (suc n) xs =
      ap (λ (values : List Sample). sample ∷ filter differs values) (distinct_times n xs) ∙ ap (λ values. sample ∷ values) (twice-left (distinct xs))

  -- what isn't in a list isn't taken out of it
  none-taken-step : (d : Sample) (values : List Sample) (b : Bool) → same sample d ≡ b → (b || is_in sample values) ≡ false
      → (is_in sample values ≡ false → filter differs values ≡ values) → cond (not b) (d ∷ filter differs values) (filter differs values) ≡ d ∷ values
  none-taken-step d values true is none rest = absurd (true≢false none)
  none-taken-step d values false is none rest = ap (λ vs. d ∷ vs) (rest none)

  pub none_taken : (values : List Sample) → is_in sample values ≡ false → filter differs values ≡ values
  none_taken [] none = refl
  none_taken (d ∷ values) none = none-taken-step d values (same sample d) refl none (none_taken values)

-- values that all come
abbrev pub Come : (Sample → ℕ) → List Sample → Type 0
Come f [] = Unit {0}
Come f (value ∷ values) = (0 < f value) × Come f values

spread-step : (n : ℕ) (value : Sample) (xs values : List Sample) → 0 < n → distinct xs ≡ values → is_in value values ≡ false
    → distinct (replicate n value ++ xs) ≡ value ∷ values
spread-step zero value xs values some rest once = absurd (omega (arith, some))
spread-step (suc n) value xs values some rest once =
    distinct_times value n xs ∙ ap (λ (vs : List Sample). value ∷ filter (λ other. not (same value other)) vs) rest ∙ ap (λ vs. value ∷ vs) (none_taken value values once)

pub distinct_spread : (f : Sample → ℕ) (values : List Sample) → Apart same values → Come f values → distinct (spread (paired f values)) ≡ values
distinct_spread f [] apart come = refl
distinct_spread f (value ∷ values) apart come =
    spread-step (f value) value (spread (paired f values)) values come.0 (distinct_spread f values apart.1 come.1) apart.0

-- a value that is in a list comes in it
occurs-step : (sample x : Sample) (xs : List Sample) (b : Bool) → same sample x ≡ b → (b || is_in sample xs) ≡ true → (is_in sample xs ≡ true → 0 < occurrences xs sample)
    → 0 < occurrences (x ∷ xs) sample
occurs-step sample x xs true is there rest = let first = count_cons (same sample) x xs ∙ ap (λ b. cond b 1 0 + occurrences xs sample) is in omega (arith, first)
occurs-step sample x xs false is there rest =
    let first = count_cons (same sample) x xs ∙ ap (λ b. cond b 1 0 + occurrences xs sample) is in let some = rest there in omega (arith, first, some)

pub occurs_some : (sample : Sample) (xs : List Sample) → is_in sample xs ≡ true → 0 < occurrences xs sample
occurs_some sample [] there = absurd (true≢false (sym there))
occurs_some sample (x ∷ xs) there = occurs-step sample x xs (same sample x) refl there (occurs_some sample xs)

come-more : (y : Sample) (ys values : List Sample) → Come (occurrences ys) values → Come (occurrences (y ∷ ys)) values
come-more y ys [] come = tt
come-more y ys (value ∷ values) come =
    let some = come.0 in let more = count_cons (same value) y ys in (omega (arith, some, more), come-more y ys values come.1)

come-kept : (test : Sample → Bool) (f : Sample → ℕ) (value : Sample) (values : List Sample) (b : Bool) → 0 < f value → Come f (filter test values) → Come f (cond b (value ∷ filter test values) (filter test values))
come-kept test f value values true some rest = (some, rest)
come-kept test f value values false some rest = rest

come-filter : (test : Sample → Bool) (f : Sample → ℕ) (values : List Sample) → Come f values → Come f (filter test values)
come-filter test f [] come = tt
come-filter test f (value ∷ values) come = come-kept test f value values (test value) come.0 (come-filter test f values come.1)

pub come_distinct : (ys : List Sample) → Come (occurrences ys) (distinct ys)
come_distinct [] = tt
come_distinct (y ∷ ys) = (
  occurs_some y (y ∷ ys) (ap (λ b. b || is_in y ys) (same_equiv.refl y)),
  come-filter (λ other. not (same y other)) (occurrences (y ∷ ys)) (distinct ys) (come-more y ys (distinct ys) (come_distinct ys)),
)

-- values that all pass a test
module _ (test : Sample → Bool) where
  all-kept : (keep : Sample → Bool) (x : Sample) (xs : List Sample) (b : Bool) → test x ≡ true → list_all test (filter keep xs) ≡ true
      → list_all test (cond b (x ∷ filter keep xs) (filter keep xs)) ≡ true
  all-kept keep x xs true one rest = ap (λ b. b && list_all test (filter keep xs)) one ∙ rest
  all-kept keep x xs false one rest = rest

  all-filter : (keep : Sample → Bool) (xs : List Sample) → list_all test xs ≡ true → list_all test (filter keep xs) ≡ true
  all-filter keep [] all = refl
  all-filter keep (x ∷ xs) all = let h = both (test x) (list_all test xs) all in all-kept keep x xs (keep x) h.0 (all-filter keep xs h.1)

  pub all_distinct : (xs : List Sample) → list_all test xs ≡ true → list_all test (distinct xs) ≡ true
  all_distinct [] all = refl
  all_distinct (x ∷ xs) all =
      let h = both (test x) (list_all test xs) all in
      ap (λ b. b && list_all test (filter (λ other. not (same x other)) (distinct xs))) h.0
      ∙ all-filter (λ other. not (same x other)) (distinct xs) (all_distinct xs h.1)

  all-times : (n : ℕ) (x : Sample) → test x ≡ true → list_all test (replicate n x) ≡ true
  all-times zero x one = refl
  all-times (suc n) x one = ap (λ b. b && list_all test (replicate n x)) one ∙ all-times n x one

  pub all_more : (n : ℕ) (x : Sample) (xs : List Sample) → list_all test xs ≡ true → test x ≡ true → list_all test (xs ++ replicate n x) ≡ true
  all_more n x xs all one = list_all-append test xs (replicate n x) ∙ (λ i. all i && all-times n x one i)

-- values counted one after the other
module _ (room : Option ℕ) (numeric : Bool) where
  abbrev pub held : List Sample → Held
  held xs = (tracked room xs, others room xs)

  one-joined : (xs : List Sample) (n : ℕ) (sample : Sample) → 0 < n → length xs + n ≤ 2 ^ 64 - 1 → list_all (suits numeric) xs ≡ true → suits numeric sample ≡ true
      → one_joined room (held xs) (sample, n) ≡ held (xs ++ replicate n sample)
  one-joined xs zero sample some small all one = absurd (omega (arith, some))
  one-joined xs (suc n) sample some small all one =
      let last = new_is_last room (suc n) numeric xs sample all one in
      let alone : distinct (replicate (suc n) sample) ≡ sample ∷ [] = ap distinct (sym (append-nil (replicate (suc n) sample))) ∙ distinct_times sample n [] in
      let counts : (test : Sample → Bool) → count_by test (replicate (suc n) sample) ≡ cond (test sample) (suc n) 0 = λ test. count_times test sample (suc n) in
      (λ i. (
        sym (tracked_more room xs (suc n) sample small last (replicate (suc n) sample) alone counts) i,
        sym (others_more room xs (suc n) sample small last (replicate (suc n) sample) alone counts) i,
      ))

  pub joined_values : (f : Sample → ℕ) (values xs : List Sample) → Come f values → length xs + length (spread (paired f values)) ≤ 2 ^ 64 - 1
      → list_all (suits numeric) xs ≡ true → list_all (suits numeric) values ≡ true
      → joined room (held xs) (paired f values) ≡ held (xs ++ spread (paired f values))
  joined_values f [] xs come small all each = ap held (sym (append-nil xs))
  joined_values f (value ∷ values) xs come small all each =
      let h = both (suits numeric value) (list_all (suits numeric) values) each in
      let times = replicate (f value) value in
      let lengths = length-append times (spread (paired f values)) in
      let longer = length-append xs times in
      let so_many = length-replicate (f value) value in
      ap (λ (before : Held). joined room before (paired f values)) (one-joined xs (f value) value come.0 (omega (arith, small, lengths, so_many)) all h.0)
      ∙ joined_values f values (xs ++ times) come.1 (omega (arith, small, lengths, longer)) (all_more (suits numeric) (f value) value xs all h.0) h.1
      ∙ ap held (append_assoc xs times (spread (paired f values)))

-- the samples value by value
abbrev pub grouped : List Sample → List Sample
grouped ys = spread (paired (occurrences ys) (distinct ys))

pub distinct_grouped : (ys : List Sample) → distinct (grouped ys) ≡ distinct ys
distinct_grouped ys = distinct_spread (occurrences ys) (distinct ys) (distinct_apart ys) (come_distinct ys)

length-by-count : (ys : List Sample) → count_by (λ y. true) ys ≡ length ys
length-by-count ys = sym (length-filter (λ y. true) ys) ∙ ap length (filter_all (λ y. true) (λ y. refl) ys)

pub length_grouped : (ys : List Sample) → length (grouped ys) ≡ length ys
length_grouped ys = sym (length-by-count (grouped ys)) ∙ count_grouped (λ y. true) ys ∙ length-by-count ys

module _ (room : Option ℕ) (numeric : Bool) (xs ys : List Sample) where
  first-same : distinct (xs ++ grouped ys) ≡ distinct (xs ++ ys)
  first-same = distinct_append xs (grouped ys) ∙ ap (λ values. distinct xs ++ new_to xs values) (distinct_grouped ys) ∙ sym (distinct_append xs ys)

  tracked-same : tracked room (xs ++ grouped ys) ≡ tracked room (xs ++ ys)
  tracked-same =
      ap (λ values. paired (occurrences (xs ++ grouped ys)) (within room values)) first-same
      ∙ map_same (λ value. (value, occurrences (xs ++ grouped ys) value)) (λ value. (value, occurrences (xs ++ ys) value))
      (λ value. ap (λ n. (value, n)) (count_append (same value) xs (grouped ys) ∙ ap (λ n. occurrences xs value + n) (count_grouped (same value) ys) ∙ sym (count_append (same value) xs ys)))
      (within room (distinct (xs ++ ys)))

  abbrev outside : List Sample → Sample → Bool
  outside values sample = not (list_any (same sample) (within room values))

  others-same : others room (xs ++ grouped ys) ≡ others room (xs ++ ys)
  others-same =
      ap (λ values. count_by (outside values) (xs ++ grouped ys)) first-same
      ∙ count_append (outside (distinct (xs ++ ys))) xs (grouped ys)
      ∙ ap (λ n. count_by (outside (distinct (xs ++ ys))) xs + n) (count_grouped (outside (distinct (xs ++ ys))) ys)
      ∙ sym (count_append (outside (distinct (xs ++ ys))) xs ys)

  -- Counting the values of the second list gives what is kept of both.
  pub joined_lists : length xs + length ys ≤ 2 ^ 64 - 1 → list_all (suits numeric) xs ≡ true → list_all (suits numeric) ys ≡ true
      → joined room (tracked room xs, others room xs) (tracked None ys) ≡ (tracked room (xs ++ ys), others room (xs ++ ys))
  joined_lists small all each =
      let longer = length_grouped ys in
      joined_values room numeric (occurrences ys) (distinct ys) xs (come_distinct ys) (omega (arith, small, longer)) all (all_distinct (suits numeric) ys each)
      ∙ (λ i. (tracked-same i, others-same i))
