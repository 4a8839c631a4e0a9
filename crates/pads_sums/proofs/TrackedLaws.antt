-- What is kept of the values of two lists one after the other: those that are tracked with their
-- occurrences, and how many others. Then what one sample more changes.
use Rattle.std.proofs.Common.{◌≡◌, ◌∙◌, sym, ap, refl, ℕ, ◌+◌, Bool, true, false, cond, not, ◌||◌, List, [], ◌∷◌, ◌++◌, map, Option, Some, None}
use Rattle.std.proofs.Math.Bool.{or-true}
use Rattle.std.specs.List.{list_any, count_by}
use Rattle.std.proofs.lemmas.Map.Steps.{list_any_congr}
use Rattle.std.proofs.lemmas.Map.Views.{any-filter_same}
use Rattle.pads_sums.specs.Samples.{Sample, same}
use Rattle.pads_sums.specs.Distinct.{distinct, within, occurrences, tracked, is_tracked, others}
use Rattle.pads_sums.proofs.Lists.{count_append, count_cons, map_same}
use Rattle.pads_sums.proofs.Members.{in_front_of_first}
use Rattle.pads_sums.proofs.DistinctLaws.{same_equiv, is_in, new_to, distinct_append}

-- a value that comes in a list isn't new to it
pub known_not_new : (sample : Sample) (xs ys : List Sample) → is_in sample xs ≡ true → list_any (same sample) (new_to xs ys) ≡ false
known_not_new sample xs ys known =
    any-filter_same (same sample) (λ other. not (is_in other xs)) false
    (λ other is. ap not (sym (list_any_congr same_equiv sample other xs is) ∙ known)) ys

within-first : (room : Option ℕ) (sample : Sample) (xs ys : List Sample) → list_any (same sample) ys ≡ false
    → list_any (same sample) (within room (xs ++ ys)) ≡ list_any (same sample) (within room xs)
within-first None sample [] ys none = none
within-first None sample (x ∷ xs) ys none = ap (λ b. same sample x || b) (within-first None sample xs ys none)
within-first (Some n) sample xs ys none = in_front_of_first (same sample) n xs ys none

module _ (room : Option ℕ) where
  -- whether a value is tracked is settled by the list in which it first comes
  pub tracked_already : (sample : Sample) (xs ys : List Sample) → is_in sample xs ≡ true → is_tracked room (xs ++ ys) sample ≡ is_tracked room xs sample
  tracked_already sample xs ys known =
      ap (λ values. list_any (same sample) (within room values)) (distinct_append xs ys)
      ∙ within-first room sample (distinct xs) (new_to xs (distinct ys)) (known_not_new sample xs (distinct ys) known)

  -- the values that are tracked, each with its occurrences in both
  pub tracked_append : (xs ys : List Sample)
      → tracked room (xs ++ ys) ≡ map (λ sample. (sample, occurrences xs sample + occurrences ys sample)) (within room (distinct xs ++ new_to xs (distinct ys)))
  tracked_append xs ys =
      ap (λ values. map (λ sample. (sample, occurrences (xs ++ ys) sample)) (within room values)) (distinct_append xs ys)
      ∙ map_same (λ sample. (sample, occurrences (xs ++ ys) sample)) (λ sample. (sample, occurrences xs sample + occurrences ys sample))
      (λ sample. ap (λ n. (sample, n)) (count_append (same sample) xs ys)) (within room (distinct xs ++ new_to xs (distinct ys)))

-- tests that agree on all values of a list count alike
pub count_agree : (p q : Sample → Bool) (xs : List Sample) → ((x : Sample) → is_in x xs ≡ true → p x ≡ q x) → count_by p xs ≡ count_by q xs
count_agree p q [] agree = refl
count_agree p q (x ∷ xs) agree =
    count_cons p x xs
    ∙ (λ i. cond (agree x (ap (λ b. b || is_in x xs) (same_equiv.refl x)) i) 1 0
    + count_agree p q xs (λ y there. agree y (ap (λ b. same y x || b) there ∙ or-true (same y x))) i)
    ∙ sym (count_cons q x xs)

-- the others of both are those of the first, and in the second the samples whose values aren't tracked
pub others_append : (room : Option ℕ) (xs ys : List Sample)
    → others room (xs ++ ys) ≡ others room xs + count_by (λ sample. not (is_tracked room (xs ++ ys) sample)) ys
others_append room xs ys =
    count_append (λ sample. not (is_tracked room (xs ++ ys) sample)) xs ys
    ∙ ap (λ n. n + count_by (λ sample. not (is_tracked room (xs ++ ys) sample)) ys)
    (count_agree (λ sample. not (is_tracked room (xs ++ ys) sample)) (λ sample. not (is_tracked room xs sample)) xs
    (λ sample there. ap not (tracked_already room sample xs ys there)))
