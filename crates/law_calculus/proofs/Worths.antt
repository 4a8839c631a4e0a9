-- What a value of a sort is worth in an expression.
use Rattle.std.proofs.Common.{◌≡◌, ◌∙◌, sym, ap, refl, subst, ℕ, zero, suc, ◌==◌, ℤ, pos, negsuc, nat_lt, Bool, true, false, ◌&&◌, if◌then◌else◌, List, [], ◌∷◌, map, Option, Some, None, slice_get, option_map}
use Rattle.pads_value.specs.declared.value.Val.{Val, Val-F, out-Val, fold_out-Val, map-Val}
use Rattle.pads_expr.specs.Parts.{worth_of, worth_or, part_of, arm_of, is_arm_of, element_of, length_of, item_at}
use Rattle.pads_expr.specs.Worth.{Worth, Answer, Is, Absent, Ill}
use Rattle.pads_expr.specs.Worth as worth
use Rattle.std.proofs.lemmas.Bool.{eqb-true, and_parts}
use Rattle.pads_calc.proofs.Cases.{pick}
use Rattle.pads_calc.specs.declared.term.Part.{Part}
use Rattle.pads_calc.specs.declared.term.Term.{Term}
use Rattle.law_calculus.specs.Expressions.{part_sort, branch_sort, element_sort, chooses_sort, length_sort}
use Rattle.law_calculus.specs.Sorts.{Sort, Number, Text, Truth, Nothing, Labels, Struct, Choice, Array, sort_of}
use Rattle.law_calculus.specs.Values.{Sorting, value_step, has_sort, is_whole, worth_has, answer_has, each_part, each_element, of_branch}

module _ (declared : List Sort) where
  abbrev pub layer_has : Val-F Val → Sort → Bool
  layer_has layer sort = value_step declared (map-Val Val Sorting (has_sort declared) layer) sort

  -- one layer at a time
  pub has-out : (value : Val) (sort : Sort) → has_sort declared value sort ≡ layer_has (out-Val value) sort
  unfolding has_sort
  has-out value sort = ap (λ (f : Sorting). f sort) (fold_out-Val Sorting (value_step declared) value)

  has-layer : (value : Val) (layer : Val-F Val) (sort : Sort) → out-Val value ≡ layer → has_sort declared value sort ≡ true → layer_has layer sort ≡ true
  has-layer value layer sort is h = ap (λ layer. layer_has layer sort) (sym is) ∙ sym (has-out value sort) ∙ h

  -- what a value of a sort is worth has the sort
  worth-layer : (value : Val) (sort : Sort) (layer : Val-F Val) → out-Val value ≡ layer → has_sort declared value sort ≡ true
      → answer_has declared (worth_of value) sort ≡ true
  worth-layer value sort Val-F.Unit is h = rw (is, is) h
  worth-layer value sort Val-F.Missing is h = rw is refl
  worth-layer value sort (Val-F.Num number) is h = rw is (has-layer value (Val-F.Num number) sort is h)
  worth-layer value sort (Val-F.Text text) is h = rw is (has-layer value (Val-F.Text text) sort is h)
  worth-layer value sort (Val-F.Enum label) is h = rw (is, is) h
  worth-layer value sort (Val-F.Tuple parts) is h = rw (is, is) h
  worth-layer value sort (Val-F.Branch number inner) is h = rw (is, is) h
  worth-layer value sort (Val-F.Array elements) is h = rw (is, is) h

  pub worth-has : (value : Val) (sort : Sort) → has_sort declared value sort ≡ true → answer_has declared (worth_of value) sort ≡ true
  worth-has value sort h = worth-layer value sort (out-Val value) refl h

  -- which worths have the sorts of which operators ask
  whole-number : (layer : Val-F Val) → is_whole layer ≡ true → layer_has layer Number ≡ true → ⊥
  whole-number Val-F.Unit whole h = cc
  whole-number Val-F.Missing whole h = cc
  whole-number (Val-F.Num number) whole h = cc
  whole-number (Val-F.Text text) whole h = cc
  whole-number (Val-F.Enum label) whole h = cc
  whole-number (Val-F.Tuple parts) whole h = cc
  whole-number (Val-F.Branch number inner) whole h = cc
  whole-number (Val-F.Array elements) whole h = cc

  whole-text : (layer : Val-F Val) → is_whole layer ≡ true → layer_has layer Text ≡ true → ⊥
  whole-text Val-F.Unit whole h = cc
  whole-text Val-F.Missing whole h = cc
  whole-text (Val-F.Num number) whole h = cc
  whole-text (Val-F.Text text) whole h = cc
  whole-text (Val-F.Enum label) whole h = cc
  whole-text (Val-F.Tuple parts) whole h = cc
  whole-text (Val-F.Branch number inner) whole h = cc
  whole-text (Val-F.Array elements) whole h = cc

  whole-truth : (layer : Val-F Val) → is_whole layer ≡ true → layer_has layer Truth ≡ true → ⊥
  whole-truth Val-F.Unit whole h = cc
  whole-truth Val-F.Missing whole h = cc
  whole-truth (Val-F.Num number) whole h = cc
  whole-truth (Val-F.Text text) whole h = cc
  whole-truth (Val-F.Enum label) whole h = cc
  whole-truth (Val-F.Tuple parts) whole h = cc
  whole-truth (Val-F.Branch number inner) whole h = cc
  whole-truth (Val-F.Array elements) whole h = cc

  abbrev holds_whole : Val → Sort → Bool
  holds_whole value sort = is_whole (out-Val value) && has_sort declared value sort

  here : (value : Val) (sort : Sort) → holds_whole value sort ≡ true → layer_has (out-Val value) sort ≡ true
  here value sort h = sym (has-out value sort) ∙ (and_parts (is_whole (out-Val value)) (has_sort declared value sort) h).1

  whole : (value : Val) (sort : Sort) → holds_whole value sort ≡ true → is_whole (out-Val value) ≡ true
  whole value sort h = (and_parts (is_whole (out-Val value)) (has_sort declared value sort) h).0

  pub number-is : (w : Worth) → worth_has declared w Number ≡ true → (number : ℤ) × (w ≡ worth.Num number)
  number-is (worth.Num number) h = (number, refl)
  number-is (worth.Text text) h = cc
  number-is (worth.Truth truth) h = cc
  number-is (worth.Part value) h = absurd (whole-number (out-Val value) (whole value Number h) (here value Number h))

  pub text-is : (w : Worth) → worth_has declared w Text ≡ true → (text : List ℕ) × (w ≡ worth.Text text)
  text-is (worth.Num number) h = cc
  text-is (worth.Text text) h = (text, refl)
  text-is (worth.Truth truth) h = cc
  text-is (worth.Part value) h = absurd (whole-text (out-Val value) (whole value Text h) (here value Text h))

  pub truth-is : (w : Worth) → worth_has declared w Truth ≡ true → (truth : Bool) × (w ≡ worth.Truth truth)
  truth-is (worth.Num number) h = cc
  truth-is (worth.Text text) h = cc
  truth-is (worth.Truth truth) h = (truth, refl)
  truth-is (worth.Part value) h = absurd (whole-truth (out-Val value) (whole value Truth h) (here value Truth h))

  -- a part of a struct
  each-part : (values : List Val) (parts : List Part) (n : ℕ) (sort : Sort) → each_part declared (map (has_sort declared) values) parts ≡ true
      → option_map (λ (part : Part). sort_of declared part.term) (slice_get parts n) ≡ Some sort
      → answer_has declared (worth_or Ill (slice_get values n)) sort ≡ true
  each-part [] [] n sort h is = cc
  each-part [] (part ∷ parts) n sort h is = cc
  each-part (value ∷ values) [] n sort h is = cc
  each-part (value ∷ values) (part ∷ parts) zero sort h is =
      let same : sort_of declared part.term ≡ sort = cc in
      worth-has value sort (subst (λ sort. has_sort declared value sort ≡ true) same (and_parts (has_sort declared value (sort_of declared part.term)) _ h).0)
  each-part (value ∷ values) (part ∷ parts) (suc n) sort h is =
      each-part values parts n sort (and_parts (has_sort declared value (sort_of declared part.term)) _ h).1 is

  part-layer : (value : Val) (layer : Val-F Val) (parts : List Part) (n : ℕ) (sort : Sort) → out-Val value ≡ layer → is_whole layer ≡ true → layer_has layer (Struct parts) ≡ true
      → part_sort declared n (Struct parts) ≡ Some sort → answer_has declared (part_of n (worth.Part value)) sort ≡ true
  part-layer value Val-F.Unit parts n sort is w h asked = cc
  part-layer value Val-F.Missing parts n sort is w h asked = cc
  part-layer value (Val-F.Num number) parts n sort is w h asked = cc
  part-layer value (Val-F.Text text) parts n sort is w h asked = cc
  part-layer value (Val-F.Enum label) parts n sort is w h asked = cc
  part-layer value (Val-F.Tuple values) parts n sort is w h asked = rw is (each-part values parts n sort h asked)
  part-layer value (Val-F.Branch number inner) parts n sort is w h asked = cc
  part-layer value (Val-F.Array elements) parts n sort is w h asked = cc

  -- a branch of a union
  of-branch : (inner : Val) (branches : List Term) (number n : ℕ) (sort : Sort) → of_branch declared (has_sort declared inner) (slice_get branches number) ≡ true
      → option_map (sort_of declared) (slice_get branches n) ≡ Some sort
      → answer_has declared (if number == n then worth_of inner else Absent) sort ≡ true
  of-branch inner branches number n sort h is =
      pick (λ a. answer_has declared a sort ≡ true) (number == n) (worth_of inner) Absent
      (λ same. worth-has inner sort (chosen (slice_get branches number) h (ap (λ n. option_map (sort_of declared) (slice_get branches n)) (eqb-true number n same) ∙ is)))
      (λ _. refl)
    where
      chosen : (branch : Option Term) → of_branch declared (has_sort declared inner) branch ≡ true → option_map (sort_of declared) branch ≡ Some sort
          → has_sort declared inner sort ≡ true
      chosen None h is = cc
      chosen (Some branch) h is = let same : sort_of declared branch ≡ sort = cc in ap (has_sort declared inner) (sym same) ∙ h

  branch-layer : (value : Val) (layer : Val-F Val) (branches : List Term) (n : ℕ) (sort : Sort) → out-Val value ≡ layer → is_whole layer ≡ true → layer_has layer (Choice branches) ≡ true
      → branch_sort declared n (Choice branches) ≡ Some sort → answer_has declared (arm_of n (worth.Part value)) sort ≡ true
  branch-layer value Val-F.Unit branches n sort is w h asked = cc
  branch-layer value Val-F.Missing branches n sort is w h asked = cc
  branch-layer value (Val-F.Num number) branches n sort is w h asked = cc
  branch-layer value (Val-F.Text text) branches n sort is w h asked = cc
  branch-layer value (Val-F.Enum label) branches n sort is w h asked = cc
  branch-layer value (Val-F.Tuple values) branches n sort is w h asked = cc
  branch-layer value (Val-F.Branch number inner) branches n sort is w h asked = rw is (of-branch inner branches number n sort h asked)
  branch-layer value (Val-F.Array elements) branches n sort is w h asked = cc

  -- an element of an array
  each-element : (values : List Val) (sort : Sort) (n : ℕ) → each_element declared (map (has_sort declared) values) sort ≡ true
      → answer_has declared (worth_or Absent (slice_get values n)) sort ≡ true
  each-element [] sort n h = refl
  each-element (value ∷ values) sort zero h = worth-has value sort (and_parts (has_sort declared value sort) _ h).0
  each-element (value ∷ values) sort (suc n) h = each-element values sort n (and_parts (has_sort declared value sort) _ h).1

  each-item : (values : List Val) (sort : Sort) (index : ℤ) → each_element declared (map (has_sort declared) values) sort ≡ true
      → answer_has declared (worth_or Absent (item_at values index)) sort ≡ true
  each-item values sort (pos n) h = each-element values sort n h
  each-item values sort (negsuc n) h = refl

  element-layer : (value : Val) (layer : Val-F Val) (elem : Term) (index : ℤ) → out-Val value ≡ layer → is_whole layer ≡ true → layer_has layer (Array elem) ≡ true
      → answer_has declared (element_of (worth.Part value) (worth.Num index)) (sort_of declared elem) ≡ true
  element-layer value Val-F.Unit elem index is w h = cc
  element-layer value Val-F.Missing elem index is w h = cc
  element-layer value (Val-F.Num number) elem index is w h = cc
  element-layer value (Val-F.Text text) elem index is w h = cc
  element-layer value (Val-F.Enum label) elem index is w h = cc
  element-layer value (Val-F.Tuple values) elem index is w h = cc
  element-layer value (Val-F.Branch number inner) elem index is w h = cc
  element-layer value (Val-F.Array values) elem index is w h = rw is (each-item values (sort_of declared elem) index h)

  length-layer : (value : Val) (layer : Val-F Val) (elem : Term) → out-Val value ≡ layer → is_whole layer ≡ true → layer_has layer (Array elem) ≡ true
      → answer_has declared (length_of (worth.Part value)) Number ≡ true
  length-layer value Val-F.Unit elem is w h = cc
  length-layer value Val-F.Missing elem is w h = cc
  length-layer value (Val-F.Num number) elem is w h = cc
  length-layer value (Val-F.Text text) elem is w h = cc
  length-layer value (Val-F.Enum label) elem is w h = cc
  length-layer value (Val-F.Tuple values) elem is w h = cc
  length-layer value (Val-F.Branch number inner) elem is w h = cc
  length-layer value (Val-F.Array values) elem is w h = rw is refl

  -- the number of what was chosen
  choice-layer : (value : Val) (layer : Val-F Val) (branches : List Term) (n : ℕ) → out-Val value ≡ layer → is_whole layer ≡ true → layer_has layer (Choice branches) ≡ true
      → answer_has declared (is_arm_of n (worth.Part value)) Truth ≡ true
  choice-layer value Val-F.Unit branches n is w h = cc
  choice-layer value Val-F.Missing branches n is w h = cc
  choice-layer value (Val-F.Num number) branches n is w h = cc
  choice-layer value (Val-F.Text text) branches n is w h = cc
  choice-layer value (Val-F.Enum label) branches n is w h = cc
  choice-layer value (Val-F.Tuple values) branches n is w h = cc
  choice-layer value (Val-F.Branch number inner) branches n is w h = rw is refl
  choice-layer value (Val-F.Array values) branches n is w h = cc

  label-layer : (value : Val) (layer : Val-F Val) (count n : ℕ) → out-Val value ≡ layer → is_whole layer ≡ true → layer_has layer (Labels count) ≡ true
      → answer_has declared (is_arm_of n (worth.Part value)) Truth ≡ true
  label-layer value Val-F.Unit count n is w h = cc
  label-layer value Val-F.Missing count n is w h = cc
  label-layer value (Val-F.Num number) count n is w h = cc
  label-layer value (Val-F.Text text) count n is w h = cc
  label-layer value (Val-F.Enum label) count n is w h = rw is refl
  label-layer value (Val-F.Tuple values) count n is w h = cc
  label-layer value (Val-F.Branch number inner) count n is w h = cc
  label-layer value (Val-F.Array values) count n is w h = cc

  -- what is asked of a worth of a sort that there is for it
  pub part-has : (w : Worth) (number : ℕ) (sort asked : Sort) → worth_has declared w sort ≡ true → part_sort declared number sort ≡ Some asked
      → answer_has declared (part_of number w) asked ≡ true
  part-has w number Number asked h is = cc
  part-has w number Text asked h is = cc
  part-has w number Truth asked h is = cc
  part-has w number Nothing asked h is = cc
  part-has w number (Labels count) asked h is = cc
  part-has (worth.Num n) number (Struct parts) asked h is = cc
  part-has (worth.Text text) number (Struct parts) asked h is = cc
  part-has (worth.Truth truth) number (Struct parts) asked h is = cc
  part-has (worth.Part value) number (Struct parts) asked h is =
      part-layer value (out-Val value) parts number asked refl (whole value (Struct parts) h) (here value (Struct parts) h) is
  part-has w number (Choice branches) asked h is = cc
  part-has w number (Array elem) asked h is = cc

  pub branch-has : (w : Worth) (number : ℕ) (sort asked : Sort) → worth_has declared w sort ≡ true → branch_sort declared number sort ≡ Some asked
      → answer_has declared (arm_of number w) asked ≡ true
  branch-has w number Number asked h is = cc
  branch-has w number Text asked h is = cc
  branch-has w number Truth asked h is = cc
  branch-has w number Nothing asked h is = cc
  branch-has w number (Labels count) asked h is = cc
  branch-has w number (Struct parts) asked h is = cc
  branch-has (worth.Num n) number (Choice branches) asked h is = cc
  branch-has (worth.Text text) number (Choice branches) asked h is = cc
  branch-has (worth.Truth truth) number (Choice branches) asked h is = cc
  branch-has (worth.Part value) number (Choice branches) asked h is =
      branch-layer value (out-Val value) branches number asked refl (whole value (Choice branches) h) (here value (Choice branches) h) is
  branch-has w number (Array elem) asked h is = cc

  by_index : (value : Val) (elem : Term) (asked : Sort) (w : Worth) → worth_has declared (worth.Part value) (Array elem) ≡ true → worth_has declared w Number ≡ true
      → sort_of declared elem ≡ asked → answer_has declared (element_of (worth.Part value) w) asked ≡ true
  by_index value elem asked w h at is =
      let index = number-is w at in
      rw (index.1, ← is) (element-layer value (out-Val value) elem index.0 refl (whole value (Array elem) h) (here value (Array elem) h))

  pub element-has : (a b : Worth) (sort index asked : Sort) → worth_has declared a sort ≡ true → worth_has declared b index ≡ true
      → element_sort declared sort index ≡ Some asked → answer_has declared (element_of a b) asked ≡ true
  element-has a b Number index asked h at is = cc
  element-has a b Text index asked h at is = cc
  element-has a b Truth index asked h at is = cc
  element-has a b Nothing index asked h at is = cc
  element-has a b (Labels count) index asked h at is = cc
  element-has a b (Struct parts) index asked h at is = cc
  element-has a b (Choice branches) index asked h at is = cc
  element-has a b (Array elem) Text asked h at is = cc
  element-has a b (Array elem) Truth asked h at is = cc
  element-has a b (Array elem) Nothing asked h at is = cc
  element-has a b (Array elem) (Labels count) asked h at is = cc
  element-has a b (Array elem) (Struct parts) asked h at is = cc
  element-has a b (Array elem) (Choice branches) asked h at is = cc
  element-has a b (Array elem) (Array other) asked h at is = cc
  element-has (worth.Num n) b (Array elem) Number asked h at is = cc
  element-has (worth.Text text) b (Array elem) Number asked h at is = cc
  element-has (worth.Truth truth) b (Array elem) Number asked h at is = cc
  element-has (worth.Part value) b (Array elem) Number asked h at is = by_index value elem asked b h at cc

  truth_asked : (asked : Sort) (b : Bool) → (if b then Some Truth else None) ≡ Some asked → Truth ≡ asked
  truth_asked asked true is = cc
  truth_asked asked false is = cc

  truth_there : {A : Type 0} (asked : Sort) (o : Option A) → option_map (λ (x : A). Truth) o ≡ Some asked → Truth ≡ asked
  truth_there asked None is = cc
  truth_there asked (Some x) is = cc

  pub chooses-has : (w : Worth) (number : ℕ) (sort asked : Sort) → worth_has declared w sort ≡ true → chooses_sort number sort ≡ Some asked
      → answer_has declared (is_arm_of number w) asked ≡ true
  chooses-has w number Number asked h is = cc
  chooses-has w number Text asked h is = cc
  chooses-has w number Truth asked h is = cc
  chooses-has w number Nothing asked h is = cc
  chooses-has (worth.Num n) number (Labels count) asked h is = cc
  chooses-has (worth.Text text) number (Labels count) asked h is = cc
  chooses-has (worth.Truth truth) number (Labels count) asked h is = cc
  chooses-has (worth.Part value) number (Labels count) asked h is =
      rw (← truth_asked asked (nat_lt number count) is) (label-layer value (out-Val value) count number refl (whole value (Labels count) h) (here value (Labels count) h))
  chooses-has w number (Struct parts) asked h is = cc
  chooses-has (worth.Num n) number (Choice branches) asked h is = cc
  chooses-has (worth.Text text) number (Choice branches) asked h is = cc
  chooses-has (worth.Truth truth) number (Choice branches) asked h is = cc
  chooses-has (worth.Part value) number (Choice branches) asked h is =
      rw (← truth_there asked (slice_get branches number) is) (choice-layer value (out-Val value) branches number refl (whole value (Choice branches) h) (here value (Choice branches) h))
  chooses-has w number (Array elem) asked h is = cc

  pub length-has : (w : Worth) (sort asked : Sort) → worth_has declared w sort ≡ true → length_sort sort ≡ Some asked → answer_has declared (length_of w) asked ≡ true
  length-has w Number asked h is = cc
  length-has w Text asked h is = let text = text-is w h in let same : Number ≡ asked = cc in rw (text.1, ← same) refl
  length-has w Truth asked h is = cc
  length-has w Nothing asked h is = cc
  length-has w (Labels count) asked h is = cc
  length-has w (Struct parts) asked h is = cc
  length-has w (Choice branches) asked h is = cc
  length-has (worth.Num n) (Array elem) asked h is = cc
  length-has (worth.Text text) (Array elem) asked h is = cc
  length-has (worth.Truth truth) (Array elem) asked h is = cc
  length-has (worth.Part value) (Array elem) asked h is =
      let same : Number ≡ asked = cc in
      rw (← same) (length-layer value (out-Val value) elem refl (whole value (Array elem) h) (here value (Array elem) h))
