-- The distinct values of two lists one after the other, and which of them are tracked.
use Rattle.std.proofs.Common.{◌≡◌, ◌∙◌, sym, ap, refl, Bool, true, false, not, ◌||◌, ◌&&◌, true≢false, List, [], ◌∷◌, ◌++◌}
use Rattle.std.specs.Cmp.{IsEquivalence}
use Rattle.std.specs.List.{filter, list_any}
use Rattle.std.proofs.lemmas.Cmp.{int_eq_equiv, nat_list_eq_equiv}
use Rattle.std.proofs.lemmas.List.Elements.{filter-append, filter_agree}
use Rattle.std.proofs.lemmas.Map.Views.{any-filter_same}
use Rattle.pads_sums.specs.Samples.{Sample, num, text, same}
use Rattle.pads_sums.specs.Distinct.{distinct}
use Rattle.pads_sums.proofs.Lists.{filter_both, filter_all}

-- to be the same value is an equivalence
same-refl : (x : Sample) → same x x ≡ true
same-refl (num a) = int_eq_equiv.refl a
same-refl (text a) = nat_list_eq_equiv.refl a

same-symm : (x y : Sample) → same x y ≡ same y x
same-symm (num a) (num b) = int_eq_equiv.symm a b
same-symm (num a) (text b) = refl
same-symm (text a) (num b) = refl
same-symm (text a) (text b) = nat_list_eq_equiv.symm a b

same-congr : (x y z : Sample) → same x y ≡ true → same x z ≡ same y z
same-congr (num a) (num b) (num c) h = int_eq_equiv.congr a b c h
same-congr (num a) (num b) (text c) h = refl
same-congr (num a) (text b) z h = absurd (true≢false (sym h))
same-congr (text a) (num b) z h = absurd (true≢false (sym h))
same-congr (text a) (text b) (num c) h = refl
same-congr (text a) (text b) (text c) h = nat_list_eq_equiv.congr a b c h

pub same_equiv : IsEquivalence same
same_equiv = record { refl = same-refl; symm = same-symm; congr = same-congr }

abbrev pub is_in : Sample → List Sample → Bool
is_in sample samples = list_any (same sample) samples

-- what is the same as a value isn't the same as one that differs from it
apart : (sample x y : Sample) → same sample x ≡ false → same sample y ≡ true → not (same x y) ≡ true
apart sample x y differs is = ap not (same-symm x y ∙ sym (same-congr sample y x is) ∙ differs)

-- a value is among the distinct ones if it is among all
in-step : (sample x : Sample) (xs : List Sample) (b : Bool) → same sample x ≡ b → is_in sample (distinct xs) ≡ is_in sample xs
    → is_in sample (distinct (x ∷ xs)) ≡ is_in sample (x ∷ xs)
in-step sample x xs true is rest = rw is refl
in-step sample x xs false is rest =
    rw is (any-filter_same (same sample) (λ other. not (same x other)) true (λ other h. apart sample x other is h) (distinct xs) ∙ rest)

pub in_distinct : (sample : Sample) (xs : List Sample) → is_in sample (distinct xs) ≡ is_in sample xs
in_distinct sample [] = refl
in_distinct sample (x ∷ xs) = in-step sample x xs (same sample x) refl (in_distinct sample xs)

-- the values of a list that don't come in another
abbrev pub new_to : List Sample → List Sample → List Sample
new_to known samples = filter (λ sample. not (is_in sample known)) samples

new-test : (x : Sample) (xs : List Sample) (y : Sample) (b a : Bool) → same y x ≡ b → (not a && not (same x y)) ≡ not (b || a)
new-test x xs y true true is = refl
new-test x xs y true false is = ap not (same-symm x y ∙ is)
new-test x xs y false true is = refl
new-test x xs y false false is = ap not (same-symm x y ∙ is)

-- The values of the first list, then those of the second that are new.
pub distinct_append : (xs ys : List Sample) → distinct (xs ++ ys) ≡ distinct xs ++ new_to xs (distinct ys)
distinct_append [] ys = sym (filter_all (λ sample. not (is_in sample [])) (λ sample. refl) (distinct ys))
distinct_append (x ∷ xs) ys =
    let others : Sample → Bool = λ other. not (same x other) in
    ap (λ (values : List Sample). x ∷ filter others values) (distinct_append xs ys)
    ∙ ap (λ values. x ∷ values)
    (filter-append others (distinct xs) (new_to xs (distinct ys))
    ∙ ap (λ (new : List Sample). filter others (distinct xs) ++ new)
    (filter_both others (λ y. not (is_in y xs)) (distinct ys)
    ∙ filter_agree (λ y. not (is_in y xs) && others y) (λ y. not (is_in y (x ∷ xs))) (λ y. new-test x xs y (same y x) (is_in y xs) refl) (distinct ys)))
