-- Where each declaration keeps its values, nothing is erased.
use Rattle.std.proofs.Common.{◌≡◌, ◌∙◌, sym, ap, refl, ℕ, zero, suc, Bool, true, List, [], ◌∷◌, map, Some, slice_get}
use Rattle.std.proofs.lemmas.Bool.{and_parts}
use Rattle.pads_value.specs.declared.value.Val.{Val, Val-F, out-Val, roll-Val, roll-out-Val}
use Rattle.pads_value.specs.declared.value.Val.TheVariants as val
use Rattle.pads_erase.specs.declared.skeleton.Keeping.{Keeping}
use Rattle.pads_erase.specs.Erasing.{Eraser, at_arms, at_each, at_leaf, at_list, by_arm, each_part, erased, keeps_all}
use Rattle.pads_erase.proofs.Induction.{Each, EachForm, each-erased}

abbrev Same : Eraser → Type 0
Same eraser = (v : Val) → eraser v ≡ v

abbrev IsSet : Bool → Type 0
IsSet set = set ≡ true

leaf-same : (set : Bool) → IsSet set → Same (at_leaf set)
leaf-same set is v = ap (λ set. at_leaf set v) is

-- a value from its layer
from-layer : (v : Val) (layer : Val-F Val) → out-Val v ≡ layer → roll-Val layer ≡ v
from-layer v layer is = ap roll-Val (sym is) ∙ roll-out-Val v

parts-same : (parts : List Eraser) → Each Same IsSet parts → (values : List Val) → each_part parts values ≡ values
parts-same [] each values = refl
parts-same (part ∷ parts) each [] = refl
parts-same (part ∷ parts) each (v ∷ values) = ap (λ first. first ∷ each_part parts values) (each.0 v) ∙ ap (λ rest. v ∷ rest) (parts-same parts each.1 values)

list-same : (parts : List Eraser) → Each Same IsSet parts → (v : Val) (layer : Val-F Val) → out-Val v ≡ layer → at_list parts v layer ≡ v
list-same parts each v Val-F.Unit is = refl
list-same parts each v Val-F.Missing is = refl
list-same parts each v (Val-F.Num number) is = refl
list-same parts each v (Val-F.Text text) is = refl
list-same parts each v (Val-F.Enum label) is = refl
list-same parts each v (Val-F.Tuple values) is =
    ap (λ values. val.Tuple values) (parts-same parts each values) ∙ sym (val.rolls-Tuple values) ∙ from-layer v (Val-F.Tuple values) is
list-same parts each v (Val-F.Branch number inner) is = refl
list-same parts each v (Val-F.Array elements) is = refl

arm-same : (arms : List Eraser) → Each Same IsSet arms → (number : ℕ) (inner : Val) → by_arm (slice_get arms number) inner ≡ inner
arm-same [] each number inner = refl
arm-same (arm ∷ arms) each zero inner = each.0 inner
arm-same (arm ∷ arms) each (suc number) inner = arm-same arms each.1 number inner

arms-same : (arms : List Eraser) → Each Same IsSet arms → (v : Val) (layer : Val-F Val) → out-Val v ≡ layer → at_arms arms v layer ≡ v
arms-same arms each v Val-F.Unit is = refl
arms-same arms each v Val-F.Missing is = refl
arms-same arms each v (Val-F.Num number) is = refl
arms-same arms each v (Val-F.Text text) is = refl
arms-same arms each v (Val-F.Enum label) is = refl
arms-same arms each v (Val-F.Tuple values) is = refl
arms-same arms each v (Val-F.Branch number inner) is =
    ap (λ inner. val.Branch number inner) (arm-same arms each number inner) ∙ sym (val.rolls-Branch number inner) ∙ from-layer v (Val-F.Branch number inner) is
arms-same arms each v (Val-F.Array elements) is = refl

elements-same : (element : Eraser) → Same element → (values : List Val) → map element values ≡ values
elements-same element same [] = refl
elements-same element same (v ∷ values) = ap (λ first. first ∷ map element values) (same v) ∙ ap (λ rest. v ∷ rest) (elements-same element same values)

each-same : (element : Eraser) → Same element → (v : Val) (layer : Val-F Val) → out-Val v ≡ layer → at_each element v layer ≡ v
each-same element same v Val-F.Unit is = refl
each-same element same v Val-F.Missing is = refl
each-same element same v (Val-F.Num number) is = refl
each-same element same v (Val-F.Text text) is = refl
each-same element same v (Val-F.Enum label) is = refl
each-same element same v (Val-F.Tuple values) is = refl
each-same element same v (Val-F.Branch number inner) is = refl
each-same element same v (Val-F.Array values) is =
    ap (λ values. val.Array values) (elements-same element same values) ∙ sym (val.rolls-Array values) ∙ from-layer v (Val-F.Array values) is

same-forms : EachForm Same IsSet
same-forms = record {
  of_leaf = leaf-same;
  of_nothing = λ v. refl;
  of_list = λ parts each v. list-same parts each v (out-Val v) refl;
  of_arms = λ arms each v. arms-same arms each v (out-Val v) refl;
  of_each = λ element same v. each-same element same v (out-Val v) refl;
}

is-set : (keepings : List Keeping) → keeps_all keepings ≡ true → (number : ℕ) (keeping : Keeping) → slice_get keepings number ≡ Some keeping → keeping.set ≡ true
is-set [] all number keeping there = cc
is-set (first ∷ keepings) all zero keeping there =
    let e : first ≡ keeping = cc in ap (λ (k : Keeping). k.set) (sym e) ∙ (and_parts first.set (keeps_all keepings) all).0
is-set (first ∷ keepings) all (suc number) keeping there = is-set keepings (and_parts first.set (keeps_all keepings) all).1 number keeping there

pub all-kept : (keepings : List Keeping) → keeps_all keepings ≡ true → (depth number : ℕ) (v : Val) → erased keepings depth number v ≡ v
all-kept keepings all depth number v = each-erased Same IsSet same-forms keepings (is-set keepings all) depth number v
