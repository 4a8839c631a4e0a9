-- Samples that are left out: none where all values are tracked; where none is left out, all are tracked.
use Rattle.std.proofs.Common.{◌≡◌, ◌∙◌, sym, ap, refl, ℕ, zero, suc, ◌+◌, ◌≤◌, Bool, true, false, cond, not, ◌||◌, true≢false, List, [], ◌∷◌, length, take, Option, Some, None, arith}
use Rattle.std.specs.List.{count_by}
use Rattle.std.proofs.lemmas.List.Sums.{count_by-le-length}
use Rattle.pads_sums.specs.Distinct.{distinct, is_tracked, others, tracked, within}
use Rattle.pads_sums.specs.Merging.{Held}
use Rattle.pads_sums.specs.Samples.{Sample, same}
use Rattle.pads_sums.proofs.AddingLaws.{distinct_apart, paired}
use Rattle.pads_sums.proofs.DistinctLaws.{same_equiv, in_distinct, is_in}
use Rattle.pads_sums.proofs.Grouping.{same_is}
use Rattle.pads_sums.proofs.Lists.{count_cons}
use Rattle.pads_sums.proofs.Members.{Apart}
use Rattle.pads_sums.proofs.TrackedLaws.{count_agree}

count-nothing : (xs : List Sample) → count_by (λ x. false) xs ≡ 0
count-nothing [] = refl
count-nothing (x ∷ xs) = count_cons (λ x. false) x xs ∙ (let rest = count-nothing xs in omega (arith, rest))

pub others_all : (xs : List Sample) → others None xs ≡ 0
others_all xs =
    count_agree (λ sample. not (is_tracked None xs sample)) (λ sample. false) xs (λ sample there. ap not (in_distinct sample xs ∙ there)) ∙ count-nothing xs

pub others_few : (room : Option ℕ) (xs : List Sample) → others room xs ≤ length xs
others_few room xs = count_by-le-length (λ sample. not (is_tracked room xs sample)) xs

-- where no sample passes a test, the test fails at each
none-step : (test : Sample → Bool) (y x : Sample) (xs : List Sample) (b a : Bool) → same y x ≡ b → test x ≡ a → (b || is_in y xs) ≡ true → cond a 1 0 + count_by test xs ≡ 0
    → (is_in y xs ≡ true → count_by test xs ≡ 0 → test y ≡ false) → test y ≡ false
none-step test y x xs b true is passes there none rest = absurd (omega (arith, none))
none-step test y x xs true false is passes there none rest = ap test (same_is y x is) ∙ passes
none-step test y x xs false false is passes there none rest = rest there (omega (arith, none))

pub none_passes : (test : Sample → Bool) (y : Sample) (xs : List Sample) → is_in y xs ≡ true → count_by test xs ≡ 0 → test y ≡ false
none_passes test y [] there none = absurd (true≢false (sym there))
none_passes test y (x ∷ xs) there none =
    none-step test y x xs (same y x) (test x) refl refl there (sym (count_cons test x xs) ∙ none) (none_passes test y xs)

-- a front that has all of the values is the whole
full-step : (x : Sample) (n : ℕ) (xs : List Sample) → is_in x xs ≡ false → ((y : Sample) → is_in y (x ∷ xs) ≡ true → is_in y (x ∷ take n xs) ≡ true)
    → (y : Sample) → is_in y xs ≡ true → (b : Bool) → same y x ≡ b → is_in y (take n xs) ≡ true
full-step x n xs once has y there true is = absurd (true≢false (sym there ∙ ap (λ z. is_in z xs) (same_is y x is) ∙ once))
full-step x n xs once has y there false is =
    let found : is_in y (x ∷ take n xs) ≡ true = has y (ap (λ b. b || is_in y xs) is ∙ there) in
    ap (λ b. b || is_in y (take n xs)) (sym is) ∙ found

pub front_whole : (n : ℕ) (xs : List Sample) → Apart same xs → ((y : Sample) → is_in y xs ≡ true → is_in y (take n xs) ≡ true) → take n xs ≡ xs
front_whole zero [] apart has = refl
front_whole zero (x ∷ xs) apart has = absurd (true≢false (sym (has x (ap (λ b. b || is_in x xs) (same_equiv.refl x)))))
front_whole (suc n) [] apart has = refl
front_whole (suc n) (x ∷ xs) apart has =
    ap (λ values. x ∷ values) (front_whole n xs apart.1 (λ y there. full-step x n xs apart.0 has y there (same y x) refl))

not-not : (b : Bool) → not b ≡ false → b ≡ true
not-not true h = refl
not-not false h = absurd (true≢false h)

within-whole : (room : Option ℕ) (xs : List Sample) → others room xs ≡ 0 → within room (distinct xs) ≡ distinct xs
within-whole None xs none = refl
within-whole (Some n) xs none =
    front_whole n (distinct xs) (distinct_apart xs)
    (λ y there. not-not (is_in y (take n (distinct xs))) (none_passes (λ sample. not (is_tracked (Some n) xs sample)) y xs (sym (in_distinct y xs) ∙ there) none))

pub same_all : (room : Option ℕ) (xs : List Sample) → others room xs ≡ 0
    → ◌≡◌ {A = Held} (tracked room xs, others room xs) (tracked None xs, others None xs)
same_all room xs none = (λ i. (
  paired (λ sample. count_by (same sample) xs) (within-whole room xs none i),
  (none ∙ sym (others_all xs)) i,
))
