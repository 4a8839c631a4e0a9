-- The samples of a part: all of one kind, with numbers in range; so a new number goes last.
use Rattle.pads_sums.proofs.Lists.{both}
use Rattle.std.proofs.Common.{◌≡◌, ◌∙◌, sym, ap, refl, ℕ, Bool, true, false, not, ◌&&◌, true≢false, List, [], ◌∷◌, ◌++◌, Option, Some, None}
use Rattle.std.specs.List.{filter, list_all, list_any, cons_option}
use Rattle.pads_sums.specs.Nodes.{Node, in_range, sample_of}
use Rattle.pads_sums.specs.Samples.{Sample, num, text, same}
use Rattle.pads_sums.specs.declared.form.PartForm.{PartForm}
use Rattle.pads_sums.proofs.SuitLaws.{is_numeric, suits, suits_if, node_suits}
use Rattle.pads_sums.specs.Adding.{is_num, is_text, with_new}
use Rattle.pads_sums.specs.Distinct.{distinct, within, tracked, occurrences}
use Rattle.pads_sums.specs.Sums.{numbers, samples_of}
use Rattle.pads_sums.proofs.AddingLaws.{paired}
use Rattle.pads_sums.proofs.Members.{none_in_front, none_in_filter}

all-step : (form : PartForm) (o : Option Sample) (xs : List Sample) → suits_if (is_numeric form) o ≡ true → list_all (suits (is_numeric form)) xs ≡ true
    → list_all (suits (is_numeric form)) (cons_option o xs) ≡ true
all-step form None xs one rest = rest
all-step form (Some sample) xs one rest = ap (λ b. b && list_all (suits (is_numeric form)) xs) one ∙ rest

pub samples_suit : (form : PartForm) (nodes : List Node) → list_all (suits (is_numeric form)) (samples_of form nodes) ≡ true
samples_suit form [] = refl
samples_suit form (node ∷ nodes) = all-step form (sample_of form node) (samples_of form nodes) (node_suits form node) (samples_suit form nodes)

-- the numbers among them are in range
ranged-step : (numeric : Bool) (sample : Sample) (xs : List Sample) → suits numeric sample ≡ true → list_all in_range (numbers xs) ≡ true
    → list_all in_range (numbers (sample ∷ xs)) ≡ true
ranged-step true (num n) xs one rest = ap (λ b. b && list_all in_range (numbers xs)) one ∙ rest
ranged-step false (num n) xs one rest = absurd (true≢false (sym one))
ranged-step numeric (text points) xs one rest = rest

pub numbers_ranged : (numeric : Bool) (xs : List Sample) → list_all (suits numeric) xs ≡ true → list_all in_range (numbers xs) ≡ true
numbers_ranged numeric [] all = refl
numbers_ranged numeric (x ∷ xs) all =
    let h = both (suits numeric x) (list_all (suits numeric) xs) all in
    ranged-step numeric x xs h.0 (numbers_ranged numeric xs h.1)

-- where samples are numbers there are no texts
no-text-step : (x : Sample) (xs : List Sample) → suits true x ≡ true → list_any is_text xs ≡ false → list_any is_text (x ∷ xs) ≡ false
no-text-step (num n) xs one rest = rest
no-text-step (text points) xs one rest = absurd (true≢false (sym one))

no_texts : (xs : List Sample) → list_all (suits true) xs ≡ true → list_any is_text xs ≡ false
no_texts [] all = refl
no_texts (x ∷ xs) all = let h = both (suits true x) (list_all (suits true) xs) all in no-text-step x xs h.0 (no_texts xs h.1)

no-distinct-texts : (xs : List Sample) → list_any is_text xs ≡ false → list_any is_text (distinct xs) ≡ false
no-distinct-texts [] none = refl
no-distinct-texts (num n ∷ xs) none = none_in_filter is_text (λ other. not (same (num n) other)) (distinct xs) (no-distinct-texts xs none)
no-distinct-texts (text points ∷ xs) none = absurd (true≢false none)

no-texts-within : (room : Option ℕ) (xs : List Sample) → list_any is_text xs ≡ false → list_any is_text (within room xs) ≡ false
no-texts-within None xs none = none
no-texts-within (Some n) xs none = none_in_front is_text n xs none

module _ (f : Sample → ℕ) where
  all-kept : (xs : List Sample) → list_any is_text xs ≡ false → filter (λ pair. is_num pair.0) (paired f xs) ≡ paired f xs
  all-kept [] none = refl
  all-kept (num n ∷ xs) none = ap (λ pairs. (num n, f (num n)) ∷ pairs) (all-kept xs none)
  all-kept (text points ∷ xs) none = absurd (true≢false none)

  none-left : (xs : List Sample) → list_any is_text xs ≡ false → filter (λ pair. is_text pair.0) (paired f xs) ≡ []
  none-left [] none = refl
  none-left (num n ∷ xs) none = none-left xs none
  none-left (text points ∷ xs) none = absurd (true≢false none)

-- a new sample of a part goes last
pub new_is_last : (room : Option ℕ) (more : ℕ) (numeric : Bool) (xs : List Sample) (sample : Sample) → list_all (suits numeric) xs ≡ true → suits numeric sample ≡ true
    → with_new more sample (tracked room xs) ≡ tracked room xs ++ (sample, more) ∷ []
new_is_last room more true xs (num n) all one =
    let none = no-texts-within room (distinct xs) (no-distinct-texts xs (no_texts xs all)) in
    (λ i. all-kept (occurrences xs) (within room (distinct xs)) none i ++ (num n, more) ∷ none-left (occurrences xs) (within room (distinct xs)) none i)
new_is_last room more false xs (num n) all one = absurd (true≢false (sym one))
new_is_last room more numeric xs (text points) all one = refl
