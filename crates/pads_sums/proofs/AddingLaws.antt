-- So many samples more of one value: what counting them makes of the tracked values and of the others is
-- what is kept of the longer list.
use Rattle.std.proofs.Common.{◌≡◌, ◌∙◌, sym, ap, refl, ℕ, suc, ◌+◌, ◌-◌, ◌^◌, ◌<◌, ◌≤◌, nat_lt, Bool, true, false, cond, not, ◌||◌, true≢false, List, [], ◌∷◌, ◌++◌, length, map, take, Option, Some, None, if◌then◌else◌, le-ltb, arith}
use Rattle.std.specs.List.{count_by, filter, list_any}
use Rattle.std.proofs.lemmas.List.{append-nil, length-append, length-take, map-append, take-append-le, take_all}
use Rattle.std.proofs.lemmas.Map.Steps.{list_any_congr}
use borrow.Author.Tests.{ltb-true, ltb-false}
use Rattle.std.proofs.lemmas.List.Folds.{list_any-append}
use Rattle.std.proofs.lemmas.List.Sums.{count_by-le-length}
use Rattle.std.proofs.lemmas.Map.Views.{any-filter_same}
use Rattle.pads_sums.specs.Samples.{Sample, same}
use Rattle.pads_sums.specs.Distinct.{distinct, within, occurrences, tracked, is_tracked, others}
use Rattle.pads_sums.specs.Adding.{next, risen, Pairs, is_among, again, with_new, has_room, is_counted, counted, counted_by}
use Rattle.pads_sums.proofs.Lists.{count_cons, map_same}
use Rattle.pads_sums.proofs.Members.{none_in_front, front_is_full, Apart, apart_filter, apart_front}
use Rattle.pads_sums.proofs.DistinctLaws.{same_equiv, is_in, in_distinct, new_to, distinct_append}
use Rattle.pads_sums.proofs.TrackedLaws.{tracked_append, others_append}

-- values with the counts that a function gives
abbrev pub paired : (Sample → ℕ) → List Sample → Pairs
paired f values = map (λ value. (value, f value)) values

-- and with so many more of a value
abbrev pub raised : ℕ → Sample → (Sample → ℕ) → Sample → ℕ
raised more sample f value = f value + cond (same value sample) more 0

pub among_paired : (sample : Sample) (f : Sample → ℕ) (values : List Sample) → is_among sample (paired f values) ≡ is_in sample values
among_paired sample f [] = refl
among_paired sample f (value ∷ values) = ap (λ b. same sample value || b) (among_paired sample f values)

-- a value that isn't there
absent-step : (more : ℕ) (sample value : Sample) (f : Sample → ℕ) (values : List Sample) (b : Bool) → same sample value ≡ b → (b || is_in sample values) ≡ false
    → (is_in sample values ≡ false → paired (raised more sample f) values ≡ paired f values)
    → paired (raised more sample f) (value ∷ values) ≡ paired f (value ∷ values)
absent-step more sample value f values true is none rest = absurd (true≢false none)
absent-step more sample value f values false is none rest =
    (λ i. (value, (ap (λ b. f value + cond b more 0) (same_equiv.symm value sample ∙ is) ∙ (let e : f value + 0 ≡ f value = omega arith in e)) i) ∷ rest none i)

pub raised_absent : (more : ℕ) (sample : Sample) (f : Sample → ℕ) (values : List Sample) → is_in sample values ≡ false
    → paired (raised more sample f) values ≡ paired f values
raised_absent more sample f [] none = refl
raised_absent more sample f (value ∷ values) none =
    absent-step more sample value f values (same sample value) refl none (raised_absent more sample f values)

-- one that is there, once
module _ (more : ℕ) (sample : Sample) (f : Sample → ℕ) (small : (value : Sample) → f value + more ≤ 2 ^ 64 - 1) where
  again-step : (value : Sample) (values : List Sample) (b : Bool) → same sample value ≡ b → is_in value values ≡ false → Apart same values
      → (b || is_in sample values) ≡ true
      → (Apart same values → is_in sample values ≡ true → again more sample (paired f values) ≡ paired (raised more sample f) values)
      → again more sample (paired f (value ∷ values)) ≡ paired (raised more sample f) (value ∷ values)
  again-step value values true is once apart there rest =
      let later : is_in sample values ≡ false = list_any_congr same_equiv sample value values is ∙ once in
      let risen_is : risen more (f value) ≡ f value + more = let h = small value in omega arith in
      let here : risen more (f value) ≡ raised more sample f value = risen_is ∙ sym (ap (λ b. f value + cond b more 0) (same_equiv.symm value sample ∙ is)) in
      let others : paired f values ≡ paired (raised more sample f) values = sym (raised_absent more sample f values later) in
      rw is (λ i. (value, here i) ∷ others i)
  again-step value values false is once apart there rest =
      let zero_more : f value ≡ f value + 0 = omega arith in
      let here : f value ≡ raised more sample f value = zero_more ∙ sym (ap (λ b. f value + cond b more 0) (same_equiv.symm value sample ∙ is)) in
      rw is (λ i. (value, here i) ∷ rest apart there i)

  pub again_raised : (values : List Sample) → Apart same values → is_in sample values ≡ true → again more sample (paired f values) ≡ paired (raised more sample f) values
  again_raised [] apart there = absurd (true≢false (sym there))
  again_raised (value ∷ values) apart there = again-step value values (same sample value) refl apart.0 apart.1 there (again_raised values)

-- the distinct values of a list
distinct-rest : (x : Sample) (xs : List Sample) → list_any (same x) (filter (λ other. not (same x other)) (distinct xs)) ≡ false
distinct-rest x xs = any-filter_same (same x) (λ other. not (same x other)) false (λ other is. ap not is) (distinct xs)

pub distinct_apart : (xs : List Sample) → Apart same (distinct xs)
distinct_apart [] = tt
distinct_apart (x ∷ xs) = (distinct-rest x xs, apart_filter same (λ other. not (same x other)) (distinct xs) (distinct_apart xs))

apart-within : (room : Option ℕ) (xs : List Sample) → Apart same xs → Apart same (within room xs)
apart-within None xs h = h
apart-within (Some n) xs h = apart_front same n xs h

none-within : (room : Option ℕ) (sample : Sample) (xs : List Sample) → is_in sample xs ≡ false → is_in sample (within room xs) ≡ false
none-within None sample xs none = none
none-within (Some n) sample xs none = none_in_front (same sample) n xs none

length-paired : (f : Sample → ℕ) (values : List Sample) → length (paired f values) ≡ length values
length-paired f [] = refl
length-paired f (value ∷ values) = ap suc (length-paired f values)

-- where a value is left out, there is no room
no-room : (room : Option ℕ) (sample : Sample) (xs : List Sample) → is_in sample xs ≡ true → is_in sample (within room xs) ≡ false
    → has_room room (length (within room xs)) ≡ false
no-room None sample xs there none = absurd (true≢false (sym there ∙ none))
no-room (Some n) sample xs there none = ap (λ k. nat_lt k n) (front_is_full (same sample) n xs there none) ∙ le-ltb n n (omega arith)

-- a new value goes last, where there is room
room-new : (room : Option ℕ) (xs : List Sample) (sample : Sample) → has_room room (length (within room xs)) ≡ true
    → within room (xs ++ sample ∷ []) ≡ within room xs ++ sample ∷ []
room-new None xs sample room = refl
room-new (Some n) xs sample room =
    let short : length (take n xs) < n = ltb-true (length (take n xs)) n room in
    let all : take n xs ≡ xs = take_all n xs (let both = length-take n xs in omega (arith, both)) in
    take_all n (xs ++ sample ∷ []) (let both = length-append xs (sample ∷ []) in let same_length = ap length all in omega (arith, both, same_length))
    ∙ ap (λ values. values ++ sample ∷ []) (sym all)

room-full : (room : Option ℕ) (xs : List Sample) (sample : Sample) → has_room room (length (within room xs)) ≡ false
    → within room (xs ++ sample ∷ []) ≡ within room xs
room-full None xs sample full = absurd (true≢false full)
room-full (Some n) xs sample full =
    let long : n ≤ length (take n xs) = ltb-false (length (take n xs)) n full in
    take-append-le n xs (sample ∷ []) (let both = length-take n xs in omega (arith, both))

-- nothing of a value that isn't there
occurs-step : (sample x : Sample) (xs : List Sample) (b : Bool) → same sample x ≡ b → (b || is_in sample xs) ≡ false
    → (is_in sample xs ≡ false → occurrences xs sample ≡ 0) → occurrences (x ∷ xs) sample ≡ 0
occurs-step sample x xs true is none rest = absurd (true≢false none)
occurs-step sample x xs false is none rest = count_cons (same sample) x xs ∙ (λ i. cond (is i) 1 0 + rest none i)

pub occurs_none : (sample : Sample) (xs : List Sample) → is_in sample xs ≡ false → occurrences xs sample ≡ 0
occurs_none sample [] none = refl
occurs_none sample (x ∷ xs) none = occurs-step sample x xs (same sample x) refl none (occurs_none sample xs)

other-step : (more n : ℕ) (now counted : Bool) → now ≡ counted → n + more ≤ 2 ^ 64 - 1 → n + cond (not now) more 0 ≡ (if counted then n else risen more n)
other-step more n now true is small = rw is (omega arith)
other-step more n now false is small = rw is (omega arith)

-- what is kept of a list and so many samples more of one value, from its first values
module _ (room : Option ℕ) (xs : List Sample) (more : ℕ) (sample : Sample) (small : length xs + more ≤ 2 ^ 64 - 1) where
  abbrev pairs : Pairs
  pairs = paired (occurrences xs) (within room (distinct xs))

  record Step (new : List Sample) : Type 0 where
    pub tracked : paired (raised more sample (occurrences xs)) (within room (distinct xs ++ new)) ≡ counted_by room more sample pairs
    pub found : is_in sample (within room (distinct xs ++ new)) ≡ is_counted room sample pairs

  occurs-small : (value : Sample) → occurrences xs value + more ≤ 2 ^ 64 - 1
  occurs-small value = let few = count_by-le-length (same value) xs in omega (arith, few)

  -- a value that is tracked already
  step-again : is_in sample (within room (distinct xs)) ≡ true → Step []
  step-again there =
      let among : is_among sample pairs ≡ true = among_paired sample (occurrences xs) (within room (distinct xs)) ∙ there in
      record {
        tracked = rw (append-nil (distinct xs), among) (sym (again_raised more sample (occurrences xs) occurs-small (within room (distinct xs)) (apart-within room (distinct xs) (distinct_apart xs)) there));
        found = rw (append-nil (distinct xs), among) there;
      }

  -- one for which there is no room
  module _ (none : is_in sample (within room (distinct xs)) ≡ false) where
    not-among : is_among sample pairs ≡ false
    not-among = among_paired sample (occurrences xs) (within room (distinct xs)) ∙ none

    room-is : (b : Bool) → has_room room (length (within room (distinct xs))) ≡ b → has_room room (length pairs) ≡ b
    room-is b is = ap (has_room room) (length-paired (occurrences xs) (within room (distinct xs))) ∙ is

    step-out : (new : List Sample) → within room (distinct xs ++ new) ≡ within room (distinct xs) → has_room room (length (within room (distinct xs))) ≡ false → Step new
    step-out new stays full =
        record {
          tracked = rw (stays, not-among, room-is false full) (raised_absent more sample (occurrences xs) (within room (distinct xs)) none);
          found = rw (stays, not-among, room-is false full) none;
        }

    -- and a new one
    step-new : is_in sample xs ≡ false → with_new more sample pairs ≡ pairs ++ (sample, more) ∷ [] → has_room room (length (within room (distinct xs))) ≡ true → Step (sample ∷ [])
    step-new new last free =
        let all : raised more sample (occurrences xs) sample ≡ more = (λ i. occurs_none sample xs new i + cond (same_equiv.refl sample i) more 0) ∙ (let e : 0 + more ≡ more = omega arith in e) in
        record {
          tracked =
              rw (room-new room (distinct xs) sample free, not-among, room-is true free)
              (map-append (λ value. (value, raised more sample (occurrences xs) value)) (within room (distinct xs)) (sample ∷ [])
              ∙ (λ i. raised_absent more sample (occurrences xs) (within room (distinct xs)) none i ++ (sample, all i) ∷ [])
              ∙ sym last);
          found =
              rw (room-new room (distinct xs) sample free, not-among, room-is true free)
              (list_any-append (same sample) (within room (distinct xs)) (sample ∷ []) ∙ rw (none, same_equiv.refl sample) refl);
        }

  abbrev new_if : Bool → List Sample
  new_if known = cond (not known) (sample ∷ []) []

  step-known : is_in sample xs ≡ true → (b : Bool) → is_in sample (within room (distinct xs)) ≡ b → Step []
  step-known known true there = step-again there
  step-known known false none = step-out none [] (ap (within room) (append-nil (distinct xs))) (no-room room sample (distinct xs) (in_distinct sample xs ∙ known) none)

  step-unknown : is_in sample xs ≡ false → with_new more sample pairs ≡ pairs ++ (sample, more) ∷ [] → (b : Bool) → has_room room (length (within room (distinct xs))) ≡ b → Step (sample ∷ [])
  step-unknown new last true free = step-new (none-within room sample (distinct xs) (in_distinct sample xs ∙ new)) new last free
  step-unknown new last false full = step-out (none-within room sample (distinct xs) (in_distinct sample xs ∙ new)) (sample ∷ []) (room-full room (distinct xs) sample full) full

  step : with_new more sample pairs ≡ pairs ++ (sample, more) ∷ [] → (b : Bool) → is_in sample xs ≡ b → Step (new_if b)
  step last true known = step-known known (is_in sample (within room (distinct xs))) refl
  step last false new = step-unknown new last (has_room room (length (within room (distinct xs)))) refl

  -- Numbers and texts stand apart, so a new value goes last only where no other kind follows. The samples
  -- that are added are those of one value.
  module _ (last : with_new more sample (tracked room xs) ≡ tracked room xs ++ (sample, more) ∷ []) (ys : List Sample)
      (one : distinct ys ≡ sample ∷ []) (all : (test : Sample → Bool) → count_by test ys ≡ cond (test sample) more 0) where
    pub tracked_more : tracked room (xs ++ ys) ≡ counted_by room more sample (tracked room xs)
    tracked_more =
        tracked_append room xs ys
        ∙ map_same (λ value. (value, occurrences xs value + occurrences ys value)) (λ value. (value, raised more sample (occurrences xs) value))
        (λ value. ap (λ n. (value, occurrences xs value + n)) (all (same value)))
        (within room (distinct xs ++ new_to xs (distinct ys)))
        ∙ ap (λ values. paired (raised more sample (occurrences xs)) (within room (distinct xs ++ new_to xs values))) one
        ∙ (step last (is_in sample xs) refl).tracked

    pub tracked_then : is_tracked room (xs ++ ys) sample ≡ is_counted room sample (tracked room xs)
    tracked_then =
        ap (λ values. is_in sample (within room values)) (distinct_append xs ys)
        ∙ ap (λ values. is_in sample (within room (distinct xs ++ new_to xs values))) one
        ∙ (step last (is_in sample xs) refl).found

    pub others_more : others room (xs ++ ys) ≡ (if is_counted room sample (tracked room xs) then others room xs else risen more (others room xs))
    others_more =
        others_append room xs ys
        ∙ ap (λ n. others room xs + n) (all (λ value. not (is_tracked room (xs ++ ys) value)))
        ∙ other-step more (others room xs) (is_tracked room (xs ++ ys) sample) (is_counted room sample (tracked room xs)) tracked_then
        (let few = count_by-le-length (λ value. not (is_tracked room xs value)) xs in omega (arith, few))

-- one sample more
module _ (room : Option ℕ) (xs : List Sample) (sample : Sample) (small : length xs + 1 ≤ 2 ^ 64 - 1)
    (last : with_new 1 sample (tracked room xs) ≡ tracked room xs ++ (sample, 1) ∷ []) where
  one-count : (test : Sample → Bool) → count_by test (sample ∷ []) ≡ cond (test sample) 1 0
  one-count test = count_cons test sample [] ∙ (let e : cond (test sample) 1 0 + 0 ≡ cond (test sample) 1 0 = omega arith in e)

  pub tracked_next : tracked room (xs ++ sample ∷ []) ≡ counted room sample (tracked room xs)
  tracked_next = tracked_more room xs 1 sample small last (sample ∷ []) refl one-count

  pub others_next : others room (xs ++ sample ∷ []) ≡ (if is_counted room sample (tracked room xs) then others room xs else next (others room xs))
  others_next = others_more room xs 1 sample small last (sample ∷ []) refl one-count
