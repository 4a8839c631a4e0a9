-- What is kept of the nodes of a part and one node more is what adding that node makes of it, as long as
-- counts are within 2^62.
use Rattle.std.proofs.Common.{◌≡◌, ◌∙◌, sym, ap, refl, ℕ, zero, suc, ℤ, ◌+◌, ◌-◌, ◌^◌, ◌≤◌, nat_eq, Bool, true, false, not, cond, List, [], ◌∷◌, ◌++◌, true≢false, length, Option, Some, None, option_and_then, if◌then◌else◌, arith}
use Rattle.std.specs.Int.{int_min, int_max}
use Rattle.std.specs.List.{count_by, cons_option, list_all}
use Rattle.std.proofs.lemmas.List.{append-nil, length-append}
use Rattle.std.proofs.lemmas.List.Elements.{filter_map-append}
use Rattle.pads_value.specs.declared.value.Val.{out-Val}
use Rattle.pads_sums.specs.Nodes.{Node, in_range, sample_in, sample_of}
use Rattle.pads_sums.specs.Samples.{Sample, num, text}
use Rattle.pads_sums.specs.declared.form.PartForm.{PartForm}
use Rattle.pads_sums.proofs.SuitLaws.{is_numeric, suits, suits_if, node_suits}
use Rattle.pads_sums.specs.Adding.{next, with_class, with_node, with_sample}
use Rattle.pads_sums.specs.Distinct.{tracked}
use Rattle.pads_sums.specs.Sums.{kept, number_in, numbers, over_all, part_sum, samples_of, total}
use Rattle.pads_sums.proofs.AddingLaws.{tracked_next, others_next}
use Rattle.pads_sums.proofs.Lists.{count_append, count_cons}
use Rattle.pads_sums.proofs.NumberLaws.{over_all_next, total_next, sum_fits}
use Rattle.pads_sums.proofs.SampleKinds.{samples_suit, numbers_ranged, new_is_last}

-- of no samples none are tracked
pub tracked_none : (room : Option ℕ) → tracked room [] ≡ []
tracked_none None = refl
tracked_none (Some zero) = refl
tracked_none (Some (suc n)) = refl

-- no more samples than clean nodes, and no more numbers than samples
length-cons_option : {A : Type 0} (o : Option A) (xs : List A) → length (cons_option o xs) ≤ 1 + length xs
length-cons_option None xs = omega arith
length-cons_option (Some a) xs = omega arith

given-few : (form : PartForm) (node : Node) (xs : List Sample) (b : Bool)
    → length (cons_option (if b then option_and_then (λ v. sample_in form (out-Val v)) node.value else None) xs) ≤ cond b 1 0 + length xs
given-few form node xs true = length-cons_option (option_and_then (λ v. sample_in form (out-Val v)) node.value) xs
given-few form node xs false = omega arith

pub samples_few : (form : PartForm) (nodes : List Node) → length (samples_of form nodes) ≤ count_by (λ node. node.clean) nodes
samples_few form [] = omega arith
samples_few form (node ∷ nodes) =
    let here = given-few form node (samples_of form nodes) node.clean in
    let rest = samples_few form nodes in
    let count = count_cons (λ node. node.clean) node nodes in
    omega (arith, here, rest, count)

pub numbers_few : (xs : List Sample) → length (numbers xs) ≤ length xs
numbers_few [] = omega arith
numbers_few (num n ∷ xs) = let rest = numbers_few xs in omega (arith, rest)
numbers_few (text points ∷ xs) = let rest = numbers_few xs in omega (arith, rest)

in-range : (numeric : Bool) (n : ℤ) → suits numeric (num n) ≡ true → in_range n ≡ true
in-range true n one = one
in-range false n one = absurd (true≢false (sym one))

-- one sample more
module _ (room : Option ℕ) (place : List ℕ) (good bad : ℕ) (numeric : Bool) (xs : List Sample) (all : list_all (suits numeric) xs ≡ true) (few : length xs ≤ 2 ^ 62) where
  small : length xs + 1 ≤ 2 ^ 64 - 1
  small = omega arith

  few-numbers : length (numbers xs) ≤ 2 ^ 62
  few-numbers = let fewer = numbers_few xs in omega (arith, fewer)

  kept-number : (n : ℤ) → suits numeric (num n) ≡ true → kept room place good bad (xs ++ num n ∷ []) ≡ with_sample room (Some (num n)) (kept room place good bad xs)
  kept-number n one =
      let last = new_is_last room 1 numeric xs (num n) all one in
      let more : numbers (xs ++ num n ∷ []) ≡ numbers xs ++ n ∷ [] = filter_map-append number_in xs (num n ∷ []) in
      let nums : length (numbers (xs ++ num n ∷ [])) ≡ next (length (numbers xs))
      = let longer = ap length more ∙ length-append (numbers xs) (n ∷ []) in let fewer = few-numbers in omega (arith, longer, fewer) in
      let range : in_range n ≡ true = in-range numeric n one in
      let least : over_all int_min (numbers (xs ++ num n ∷ [])) ≡ (if nat_eq (length (numbers xs)) 0 then n else int_min (over_all int_min (numbers xs)) n)
      = ap (over_all int_min) more ∙ over_all_next int_min (numbers xs) n in
      let greatest : over_all int_max (numbers (xs ++ num n ∷ [])) ≡ (if nat_eq (length (numbers xs)) 0 then n else int_max (over_all int_max (numbers xs)) n)
      = ap (over_all int_max) more ∙ over_all_next int_max (numbers xs) n in
      (λ i. record {
        place = place;
        good = good;
        bad = bad;
        nums = nums i;
        least = least i;
        greatest = greatest i;
        sum = (ap total more ∙ total_next (numbers xs) n ∙ sym (sum_fits (numbers xs) n few-numbers (numbers_ranged numeric xs all) range)) i;
        tracked = tracked_next room xs (num n) small last i;
        others = others_next room xs (num n) small last i;
      })

  kept-text : (points : List ℕ) → suits numeric (text points) ≡ true → kept room place good bad (xs ++ text points ∷ []) ≡ with_sample room (Some (text points)) (kept room place good bad xs)
  kept-text points one =
      let last = new_is_last room 1 numeric xs (text points) all one in
      let more : numbers (xs ++ text points ∷ []) ≡ numbers xs = filter_map-append number_in xs (text points ∷ []) ∙ append-nil (numbers xs) in
      (λ i. record {
        place = place;
        good = good;
        bad = bad;
        nums = length (more i);
        least = over_all int_min (more i);
        greatest = over_all int_max (more i);
        sum = total (more i);
        tracked = tracked_next room xs (text points) small last i;
        others = others_next room xs (text points) small last i;
      })

  kept_next : (o : Option Sample) → suits_if numeric o ≡ true → kept room place good bad (xs ++ cons_option o []) ≡ with_sample room o (kept room place good bad xs)
  kept_next None one = ap (kept room place good bad) (append-nil xs)
  kept_next (Some (num n)) one = kept-number n one
  kept_next (Some (text points)) one = kept-text points one

class-step : (room : Option ℕ) (place : List ℕ) (good bad : ℕ) (xs : List Sample) (clean : Bool) → good ≤ 2 ^ 62 → bad ≤ 2 ^ 62
    → kept room place (good + (0 + cond clean 1 0)) (bad + (0 + cond (not clean) 1 0)) xs ≡ with_class clean (kept room place good bad xs)
class-step room place good bad xs true few_good few_bad =
    let more : good + 1 ≡ next good = omega arith in
    let same : bad + 0 ≡ bad = omega arith in
    (λ i. kept room place (more i) (same i) xs)
class-step room place good bad xs false few_good few_bad =
    let same : good + 0 ≡ good = omega arith in
    let more : bad + 1 ≡ next bad = omega arith in
    (λ i. kept room place (same i) (more i) xs)

pub part_sum_next : (room : Option ℕ) (place : List ℕ) (form : PartForm) (nodes : List Node) (node : Node)
    → count_by (λ node. node.clean) nodes ≤ 2 ^ 62 → count_by (λ node. not node.clean) nodes ≤ 2 ^ 62
    → part_sum room place form (nodes ++ node ∷ []) ≡ with_node room form (part_sum room place form nodes) node
part_sum_next room place form nodes node few_good few_bad =
    let good = count_by (λ node. node.clean) nodes in
    let bad = count_by (λ node. not node.clean) nodes in
    let xs = samples_of form nodes in
    let few : length xs ≤ 2 ^ 62 = let fewer = samples_few form nodes in omega (arith, fewer, few_good) in
    (λ i. kept room place (count_append (λ node. node.clean) nodes (node ∷ []) i) (count_append (λ node. not node.clean) nodes (node ∷ []) i)
    (filter_map-append (sample_of form) nodes (node ∷ []) i))
    ∙ kept_next room place (good + (0 + cond node.clean 1 0)) (bad + (0 + cond (not node.clean) 1 0)) (is_numeric form) xs (samples_suit form nodes) few
    (sample_of form node) (node_suits form node)
    ∙ ap (with_sample room (sample_of form node)) (class-step room place good bad xs node.clean few_good few_bad)
