-- The test of sameness holds exactly of equal values.
use Rattle.std.proofs.Common.{◌≡◌, ◌∙◌, sym, ap, refl, subst, ℕ, ℤ, ◌==◌, ◌&&◌, Bool, true, false, List, [], ◌∷◌, map, Option, Some, None}
use Rattle.std.specs.Prelude.{Decides, ◌↔◌, IsTrue}
use Rattle.std.specs.Bool.{one_answer}
use Rattle.std.specs.Cmp.{first_so, second_so}
use Rattle.std.specs.Cmp.Derive.{both_true}
use Rattle.std.proofs.lemmas.Bool.Decides.{Decides-eqb, Decides-int_eq}
use Rattle.std.proofs.lemmas.Slice.Eq.{bytes_eq-Decides}
use Rattle.pads_value.specs.declared.value.Val.{Val, Val-F, roll-Val, out-Val, out-roll-Val, roll-out-Val, fold-roll-Val, ind-Val, map-Val}
use Rattle.pads_forms.specs.Shapes.{num_in, text_in, label_in, tuple_in, branch_in, array_in}
use Rattle.pads_print.specs.Same.{same, same_step, same_shape, holds_of, each_holds, is_unit, is_missing}

num-made : (layer : Val-F Val) (x : ℤ) → num_in layer ≡ Some x → layer ≡ Val-F.Num x
num-made Val-F.Unit x is = absurd cc
num-made Val-F.Missing x is = absurd cc
num-made (Val-F.Num number) x is = let e : number ≡ x = cc in ap (λ x. Val-F.Num x) e
num-made (Val-F.Text text) x is = absurd cc
num-made (Val-F.Enum label) x is = absurd cc
num-made (Val-F.Tuple parts) x is = absurd cc
num-made (Val-F.Branch number inner) x is = absurd cc
num-made (Val-F.Array elements) x is = absurd cc

text-made : (layer : Val-F Val) (x : List ℕ) → text_in layer ≡ Some x → layer ≡ Val-F.Text x
text-made Val-F.Unit x is = absurd cc
text-made Val-F.Missing x is = absurd cc
text-made (Val-F.Num number) x is = absurd cc
text-made (Val-F.Text text) x is = let e : text ≡ x = cc in ap (λ x. Val-F.Text x) e
text-made (Val-F.Enum label) x is = absurd cc
text-made (Val-F.Tuple parts) x is = absurd cc
text-made (Val-F.Branch number inner) x is = absurd cc
text-made (Val-F.Array elements) x is = absurd cc

label-made : (layer : Val-F Val) (x : ℕ) → label_in layer ≡ Some x → layer ≡ Val-F.Enum x
label-made Val-F.Unit x is = absurd cc
label-made Val-F.Missing x is = absurd cc
label-made (Val-F.Num number) x is = absurd cc
label-made (Val-F.Text text) x is = absurd cc
label-made (Val-F.Enum label) x is = let e : label ≡ x = cc in ap (λ x. Val-F.Enum x) e
label-made (Val-F.Tuple parts) x is = absurd cc
label-made (Val-F.Branch number inner) x is = absurd cc
label-made (Val-F.Array elements) x is = absurd cc

tuple-made : (layer : Val-F Val) (x : List Val) → tuple_in layer ≡ Some x → layer ≡ Val-F.Tuple x
tuple-made Val-F.Unit x is = absurd cc
tuple-made Val-F.Missing x is = absurd cc
tuple-made (Val-F.Num number) x is = absurd cc
tuple-made (Val-F.Text text) x is = absurd cc
tuple-made (Val-F.Enum label) x is = absurd cc
tuple-made (Val-F.Tuple parts) x is = let e : parts ≡ x = cc in ap (λ x. Val-F.Tuple x) e
tuple-made (Val-F.Branch number inner) x is = absurd cc
tuple-made (Val-F.Array elements) x is = absurd cc

array-made : (layer : Val-F Val) (x : List Val) → array_in layer ≡ Some x → layer ≡ Val-F.Array x
array-made Val-F.Unit x is = absurd cc
array-made Val-F.Missing x is = absurd cc
array-made (Val-F.Num number) x is = absurd cc
array-made (Val-F.Text text) x is = absurd cc
array-made (Val-F.Enum label) x is = absurd cc
array-made (Val-F.Tuple parts) x is = absurd cc
array-made (Val-F.Branch number inner) x is = absurd cc
array-made (Val-F.Array elements) x is = let e : elements ≡ x = cc in ap (λ x. Val-F.Array x) e

branch-made : (layer : Val-F Val) (x : ℕ × Val) → branch_in layer ≡ Some x → layer ≡ Val-F.Branch x.0 x.1
branch-made Val-F.Unit x is = absurd cc
branch-made Val-F.Missing x is = absurd cc
branch-made (Val-F.Num number) x is = absurd cc
branch-made (Val-F.Text text) x is = absurd cc
branch-made (Val-F.Enum label) x is = absurd cc
branch-made (Val-F.Tuple parts) x is = absurd cc
branch-made (Val-F.Branch number inner) x is = let e : (number, inner) ≡ x = cc in ap (λ (x : ℕ × Val). Val-F.Branch x.0 x.1) e
branch-made (Val-F.Array elements) x is = absurd cc

unit-made : (layer : Val-F Val) → is_unit layer ≡ true → layer ≡ Val-F.Unit
unit-made Val-F.Unit is = refl
unit-made Val-F.Missing is = absurd cc
unit-made (Val-F.Num number) is = absurd cc
unit-made (Val-F.Text text) is = absurd cc
unit-made (Val-F.Enum label) is = absurd cc
unit-made (Val-F.Tuple parts) is = absurd cc
unit-made (Val-F.Branch number inner) is = absurd cc
unit-made (Val-F.Array elements) is = absurd cc

missing-made : (layer : Val-F Val) → is_missing layer ≡ true → layer ≡ Val-F.Missing
missing-made Val-F.Unit is = absurd cc
missing-made Val-F.Missing is = refl
missing-made (Val-F.Num number) is = absurd cc
missing-made (Val-F.Text text) is = absurd cc
missing-made (Val-F.Enum label) is = absurd cc
missing-made (Val-F.Tuple parts) is = absurd cc
missing-made (Val-F.Branch number inner) is = absurd cc
missing-made (Val-F.Array elements) is = absurd cc

-- what a value is, from its layer
from-layer : (layer : Val-F Val) (other : Val) → out-Val other ≡ layer → roll-Val layer ≡ other
from-layer layer other is = ap roll-Val (sym is) ∙ roll-out-Val other

to-layer : (layer : Val-F Val) (other : Val) → roll-Val layer ≡ other → out-Val other ≡ layer
to-layer layer other is = ap out-Val (sym is) ∙ out-roll-Val layer

-- a shape that is taken apart by `pick` and put together by `make`
module _ {X : Type 0} (pick : Val-F Val → Option X) (make : X → Val-F Val) (made : (layer : Val-F Val) (x : X) → pick layer ≡ Some x → layer ≡ make x)
    (back : (x : X) → pick (make x) ≡ Some x) (test : X → Bool) (z : X) (decides : (x : X) → Decides (test x) (z ≡ x)) where
  holds-made : (layer : Val-F Val) (found : Option X) → pick layer ≡ found → holds_of test found ≡ true → make z ≡ layer
  holds-made layer None is holds = absurd cc
  holds-made layer (Some x) is holds = ap make ((decides x).0 holds) ∙ sym (made layer x is)

  made-holds : (layer : Val-F Val) → make z ≡ layer → holds_of test (pick layer) ≡ true
  made-holds layer is = ap (holds_of test) (ap pick (sym is) ∙ back z) ∙ (decides z).1 refl

  pub shape-decides : (other : Val) → Decides (holds_of test (pick (out-Val other))) (roll-Val (make z) ≡ other)
  shape-decides other = (
    λ holds. from-layer (make z) other (sym (holds-made (out-Val other) (pick (out-Val other)) refl holds)),
    λ is. made-holds (out-Val other) (sym (to-layer (make z) other is)),
  )

abbrev Same : Val → Type 0
Same v = (other : Val) → Decides (same v other) (v ≡ other)

-- values with the fact of each
abbrev Known : Type 0
Known = (v : Val) × Same v

abbrev value_of : Known → Val
value_of e = e.0

both : (one more : Bool) (v : Val) (w : Val) (vs ws : List Val) → Decides one (v ≡ w) → Decides more (vs ≡ ws) → Decides (one && more) (v ∷ vs ≡ w ∷ ws)
both one more v w vs ws first rest = (
  λ holds. let a : v ≡ w = first.0 (first_so one more holds) in let b : vs ≡ ws = rest.0 (second_so one more holds) in rw (a, b) refl,
  λ is. let a : v ≡ w = cc in let b : vs ≡ ws = cc in both_true (first.1 a) (rest.1 b),
)

each-decides : (known : List Known) (values : List Val) → Decides (each_holds (map same (map value_of known)) values) (map value_of known ≡ values)
each-decides [] [] = (λ holds. refl, λ is. refl)
each-decides [] (w ∷ values) = (λ holds. absurd cc, λ is. absurd cc)
each-decides (e ∷ known) [] = (λ holds. absurd cc, λ is. absurd cc)
each-decides (e ∷ known) (w ∷ values) =
    both (same e.0 w) (each_holds (map same (map value_of known)) values) e.0 w (map value_of known) values (e.1 w) (each-decides known values)

pair-decides : (number : ℕ) (e : Known) (x : ℕ × Val) → Decides ((number == x.0) && same e.0 x.1) ((number, e.0) ≡ x)
pair-decides number e x =
    let first = Decides-eqb number x.0 in
    let rest = e.1 x.1 in (
      λ holds. let a : number ≡ x.0 = first.0 (first_so (number == x.0) (same e.0 x.1) holds) in
          let b : e.0 ≡ x.1 = rest.0 (second_so (number == x.0) (same e.0 x.1) holds) in
          ap (λ number. (number, e.0)) a ∙ ap (λ v. (x.0, v)) b,
      λ is. both_true (first.1 (ap (λ (x : ℕ × Val). x.0) is)) (rest.1 (ap (λ (x : ℕ × Val). x.1) is)),
    )

-- one layer, where each part of it is known
layer-decides : (y : Val-F Known) (other : Val) → Decides (same_shape (map-Val Val (Val → Bool) same (map-Val Known Val value_of y)) (out-Val other)) (roll-Val (map-Val Known Val value_of y) ≡ other)
layer-decides Val-F.Unit other =
    (λ holds. from-layer Val-F.Unit other (unit-made (out-Val other) holds), λ is. ap is_unit (to-layer Val-F.Unit other is))
layer-decides Val-F.Missing other =
    (λ holds. from-layer Val-F.Missing other (missing-made (out-Val other) holds), λ is. ap is_missing (to-layer Val-F.Missing other is))
layer-decides (Val-F.Num number) other = shape-decides num_in (λ x. Val-F.Num x) num-made (λ x. refl) _ number (Decides-int_eq number) other
layer-decides (Val-F.Text text) other = shape-decides text_in (λ x. Val-F.Text x) text-made (λ x. refl) _ text (bytes_eq-Decides text) other
layer-decides (Val-F.Enum label) other = shape-decides label_in (λ x. Val-F.Enum x) label-made (λ x. refl) _ label (Decides-eqb label) other
layer-decides (Val-F.Tuple known) other = shape-decides tuple_in (λ x. Val-F.Tuple x) tuple-made (λ x. refl) _ (map value_of known) (each-decides known) other
layer-decides (Val-F.Branch number e) other =
    shape-decides branch_in (λ (x : ℕ × Val). Val-F.Branch x.0 x.1) branch-made (λ x. refl) _ (number, e.0) (pair-decides number e) other
layer-decides (Val-F.Array known) other = shape-decides array_in (λ x. Val-F.Array x) array-made (λ x. refl) _ (map value_of known) (each-decides known) other

same-roll : (layer : Val-F Val) (other : Val) → same (roll-Val layer) other ≡ same_shape (map-Val Val (Val → Bool) same layer) (out-Val other)
unfolding same
same-roll layer other = ap (λ (test : Val → Bool). test other) (fold-roll-Val (Val → Bool) same_step layer)

pub same-decides : (v other : Val) → Decides (same v other) (v ≡ other)
same-decides = ind-Val Same (λ x y is other.
    subst (λ (layer : Val-F Val). Decides (same (roll-Val layer) other) (roll-Val layer ≡ other)) is
    (subst (λ (answer : Bool). Decides answer (roll-Val (map-Val Known Val value_of y) ≡ other)) (sym (same-roll (map-Val Known Val value_of y) other))
    (layer-decides y other)))

-- what a test of sameness answers
pub same-told : (v other : Val) (answer : Bool) → (IsTrue answer ↔ (v ≡ other)) → answer ≡ same v other
same-told v other answer told = one_answer answer (same v other) told (same-decides v other)
