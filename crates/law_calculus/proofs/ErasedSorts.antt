-- Erasing keeps the sort of a value, whatever is kept of it.
use Rattle.std.proofs.Common.{◌≡◌, ◌∙◌, sym, ap, refl, ℕ, zero, suc, Bool, true, false, List, [], ◌∷◌, map, Option, Some, None, slice_get}
use Rattle.std.specs.Prelude.{⊤}
use Rattle.std.proofs.lemmas.Bool.{and_from, and_parts}
use Rattle.pads_value.specs.declared.value.Val.{Val, Val-F, out-Val}
use Rattle.pads_value.specs.declared.value.Val.TheVariants as val
use Rattle.pads_erase.specs.declared.skeleton.Keeping.{Keeping}
use Rattle.pads_erase.specs.Erasing.{Eraser, at_arms, at_each, at_leaf, at_list, by_arm, without_data, erased}
use Rattle.pads_erase.specs.Erasing.{each_part as each_erased}
use Rattle.pads_erase.proofs.Induction.{Each, EachForm, each-erased as holds-erased}
use Rattle.pads_calc.specs.declared.term.Part.{Part}
use Rattle.pads_calc.specs.declared.term.Term.{Term}
use Rattle.law_calculus.specs.Sorts.{Sort, Number, Text, Truth, Nothing, Labels, Struct, Choice, Array, sort_of}
use Rattle.law_calculus.specs.Values.{has_sort, are_parts, are_elements, each_part, each_element, is_branch, of_branch}
use Rattle.law_calculus.proofs.Values.{has-Missing, has-Tuple, has-Branch, has-Array}
use Rattle.law_calculus.proofs.Worths.{has-out, layer_has}

module _ (declared : List Sort) where
  abbrev HasSort : Val → Sort → Type 0
  HasSort v sort = has_sort declared v sort ≡ true

  abbrev pub KeepsSort : Eraser → Type 0
  KeepsSort eraser = (v : Val) (sort : Sort) → HasSort v sort → HasSort (eraser v) sort

  abbrev Any : Bool → Type 0
  Any set = ⊤

  -- a value's layer has its sort
  of-layer : (v : Val) (layer : Val-F Val) (sort : Sort) → out-Val v ≡ layer → HasSort v sort → layer_has declared layer sort ≡ true
  of-layer v layer sort is h = ap (λ layer. layer_has declared layer sort) (sym is) ∙ sym (has-out declared v sort) ∙ h

  without-keeps : (v : Val) (layer : Val-F Val) (sort : Sort) → HasSort v sort → HasSort (without_data v layer) sort
  without-keeps v Val-F.Unit sort h = h
  without-keeps v Val-F.Missing sort h = h
  without-keeps v (Val-F.Num number) sort h = has-Missing declared sort
  without-keeps v (Val-F.Text text) sort h = has-Missing declared sort
  without-keeps v (Val-F.Enum label) sort h = has-Missing declared sort
  without-keeps v (Val-F.Tuple parts) sort h = h
  without-keeps v (Val-F.Branch number inner) sort h = h
  without-keeps v (Val-F.Array elements) sort h = h

  leaf-keeps : (set : Bool) → KeepsSort (at_leaf set)
  leaf-keeps true v sort h = h
  leaf-keeps false v sort h = without-keeps v (out-Val v) sort h

  parts-keep : (erasers : List Eraser) → Each KeepsSort Any erasers → (values : List Val) (parts : List Part)
      → each_part declared (map (has_sort declared) values) parts ≡ true → each_part declared (map (has_sort declared) (each_erased erasers values)) parts ≡ true
  parts-keep [] each values parts h = h
  parts-keep (eraser ∷ erasers) each [] parts h = h
  parts-keep (eraser ∷ erasers) each (v ∷ values) [] h = h
  parts-keep (eraser ∷ erasers) each (v ∷ values) (part ∷ parts) h =
      let both = and_parts (has_sort declared v (sort_of declared part.term)) (each_part declared (map (has_sort declared) values) parts) h in
      and_from (has_sort declared (eraser v) (sort_of declared part.term)) _ (each.0 v (sort_of declared part.term) both.0) (parts-keep erasers each.1 values parts both.1)

  tuple-keeps : (erasers : List Eraser) → Each KeepsSort Any erasers → (values : List Val) (sort : Sort)
      → are_parts declared (map (has_sort declared) values) sort ≡ true → HasSort (val.Tuple (each_erased erasers values)) sort
  tuple-keeps erasers each values Number h = cc
  tuple-keeps erasers each values Text h = cc
  tuple-keeps erasers each values Truth h = cc
  tuple-keeps erasers each values Nothing h = cc
  tuple-keeps erasers each values (Labels count) h = cc
  tuple-keeps erasers each values (Struct parts) h = has-Tuple declared (each_erased erasers values) parts ∙ parts-keep erasers each values parts h
  tuple-keeps erasers each values (Choice branches) h = cc
  tuple-keeps erasers each values (Array element) h = cc

  list-keeps : (erasers : List Eraser) → Each KeepsSort Any erasers → (v : Val) (layer : Val-F Val) → out-Val v ≡ layer → (sort : Sort) → HasSort v sort
      → HasSort (at_list erasers v layer) sort
  list-keeps erasers each v Val-F.Unit is sort h = h
  list-keeps erasers each v Val-F.Missing is sort h = h
  list-keeps erasers each v (Val-F.Num number) is sort h = h
  list-keeps erasers each v (Val-F.Text text) is sort h = h
  list-keeps erasers each v (Val-F.Enum label) is sort h = h
  list-keeps erasers each v (Val-F.Tuple values) is sort h = tuple-keeps erasers each values sort (of-layer v (Val-F.Tuple values) sort is h)
  list-keeps erasers each v (Val-F.Branch number inner) is sort h = h
  list-keeps erasers each v (Val-F.Array elements) is sort h = h

  arm-keeps : (erasers : List Eraser) → Each KeepsSort Any erasers → (number : ℕ) → KeepsSort (by_arm (slice_get erasers number))
  arm-keeps [] each number v sort h = h
  arm-keeps (eraser ∷ erasers) each zero v sort h = each.0 v sort h
  arm-keeps (eraser ∷ erasers) each (suc number) v sort h = arm-keeps erasers each.1 number v sort h

  of_branch-keeps : (eraser : Eraser) → KeepsSort eraser → (inner : Val) (branch : Option Term) → of_branch declared (has_sort declared inner) branch ≡ true
      → of_branch declared (has_sort declared (eraser inner)) branch ≡ true
  of_branch-keeps eraser keeps inner None h = h
  of_branch-keeps eraser keeps inner (Some branch) h = keeps inner (sort_of declared branch) h

  branch-keeps : (eraser : Eraser) → KeepsSort eraser → (number : ℕ) (inner : Val) (sort : Sort) → is_branch declared number (has_sort declared inner) sort ≡ true
      → HasSort (val.Branch number (eraser inner)) sort
  branch-keeps eraser keeps number inner Number h = cc
  branch-keeps eraser keeps number inner Text h = cc
  branch-keeps eraser keeps number inner Truth h = cc
  branch-keeps eraser keeps number inner Nothing h = cc
  branch-keeps eraser keeps number inner (Labels count) h = cc
  branch-keeps eraser keeps number inner (Struct parts) h = cc
  branch-keeps eraser keeps number inner (Choice branches) h =
      has-Branch declared number (eraser inner) branches ∙ of_branch-keeps eraser keeps inner (slice_get branches number) h
  branch-keeps eraser keeps number inner (Array element) h = cc

  arms-keep : (erasers : List Eraser) → Each KeepsSort Any erasers → (v : Val) (layer : Val-F Val) → out-Val v ≡ layer → (sort : Sort) → HasSort v sort
      → HasSort (at_arms erasers v layer) sort
  arms-keep erasers each v Val-F.Unit is sort h = h
  arms-keep erasers each v Val-F.Missing is sort h = h
  arms-keep erasers each v (Val-F.Num number) is sort h = h
  arms-keep erasers each v (Val-F.Text text) is sort h = h
  arms-keep erasers each v (Val-F.Enum label) is sort h = h
  arms-keep erasers each v (Val-F.Tuple values) is sort h = h
  arms-keep erasers each v (Val-F.Branch number inner) is sort h =
      branch-keeps (by_arm (slice_get erasers number)) (arm-keeps erasers each number) number inner sort (of-layer v (Val-F.Branch number inner) sort is h)
  arms-keep erasers each v (Val-F.Array elements) is sort h = h

  elements-keep : (eraser : Eraser) → KeepsSort eraser → (values : List Val) (sort : Sort) → each_element declared (map (has_sort declared) values) sort ≡ true
      → each_element declared (map (has_sort declared) (map eraser values)) sort ≡ true
  elements-keep eraser keeps [] sort h = h
  elements-keep eraser keeps (v ∷ values) sort h =
      let both = and_parts (has_sort declared v sort) (each_element declared (map (has_sort declared) values) sort) h in
      and_from (has_sort declared (eraser v) sort) _ (keeps v sort both.0) (elements-keep eraser keeps values sort both.1)

  array-keeps : (eraser : Eraser) → KeepsSort eraser → (values : List Val) (sort : Sort) → are_elements declared (map (has_sort declared) values) sort ≡ true
      → HasSort (val.Array (map eraser values)) sort
  array-keeps eraser keeps values Number h = cc
  array-keeps eraser keeps values Text h = cc
  array-keeps eraser keeps values Truth h = cc
  array-keeps eraser keeps values Nothing h = cc
  array-keeps eraser keeps values (Labels count) h = cc
  array-keeps eraser keeps values (Struct parts) h = cc
  array-keeps eraser keeps values (Choice branches) h = cc
  array-keeps eraser keeps values (Array element) h = has-Array declared (map eraser values) element ∙ elements-keep eraser keeps values (sort_of declared element) h

  each-keeps : (eraser : Eraser) → KeepsSort eraser → (v : Val) (layer : Val-F Val) → out-Val v ≡ layer → (sort : Sort) → HasSort v sort
      → HasSort (at_each eraser v layer) sort
  each-keeps eraser keeps v Val-F.Unit is sort h = h
  each-keeps eraser keeps v Val-F.Missing is sort h = h
  each-keeps eraser keeps v (Val-F.Num number) is sort h = h
  each-keeps eraser keeps v (Val-F.Text text) is sort h = h
  each-keeps eraser keeps v (Val-F.Enum label) is sort h = h
  each-keeps eraser keeps v (Val-F.Tuple values) is sort h = h
  each-keeps eraser keeps v (Val-F.Branch number inner) is sort h = h
  each-keeps eraser keeps v (Val-F.Array values) is sort h = array-keeps eraser keeps values sort (of-layer v (Val-F.Array values) sort is h)

  sort-forms : EachForm KeepsSort Any
  sort-forms = record {
    of_leaf = λ set met. leaf-keeps set;
    of_nothing = λ v sort h. h;
    of_list = λ parts each v sort h. list-keeps parts each v (out-Val v) refl sort h;
    of_arms = λ arms each v sort h. arms-keep arms each v (out-Val v) refl sort h;
    of_each = λ element keeps v sort h. each-keeps element keeps v (out-Val v) refl sort h;
  }

  pub erased-has : (keepings : List Keeping) (depth number : ℕ) → KeepsSort (erased keepings depth number)
  erased-has keepings depth number = holds-erased KeepsSort Any sort-forms keepings (λ n keeping there. tt) depth number
