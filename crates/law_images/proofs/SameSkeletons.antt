-- Two skeletons are the same exactly if they are equal.
use Rattle.std.proofs.Common.{◌≡◌, ◌∙◌, sym, ap, refl, subst, eq-eqb, ℕ, true, List, [], ◌∷◌, map}
use Rattle.std.proofs.lemmas.Bool.{and_parts, eqb-true}
use Rattle.pads_erase.specs.declared.skeleton.Skeleton.{Skeleton, Skeleton-F, fold-roll-Skeleton, ind-Skeleton, map-Skeleton, out-Skeleton, out-roll-Skeleton, roll-Skeleton, roll-out-Skeleton}
use Rattle.pads_image.specs.Skeletons.{Known, each_same, is_leaf, is_nothing, is_list, is_arms, is_each, is_ref, same_skeleton, same_step}
use Rattle.law_images.proofs.Closed.{both}

abbrev Same : Skeleton → Type 0
Same s = same_skeleton s s ≡ true

abbrev Itself : Type 0
Itself = (s : Skeleton) × (same_skeleton s s ≡ true)

abbrev skeleton_in : Itself → Skeleton
skeleton_in e = e.0

same-roll : (layer : Skeleton-F Skeleton) (other : Skeleton) → same_skeleton (roll-Skeleton layer) other ≡ same_step (map-Skeleton Skeleton Known same_skeleton layer) other
unfolding same_skeleton
same-roll layer other = ap (λ (test : Known). test other) (fold-roll-Skeleton Known same_step layer)

each-itself : (parts : List Itself) → each_same (map same_skeleton (map skeleton_in parts)) (map skeleton_in parts) ≡ true
each-itself [] = refl
each-itself (e ∷ parts) = both (same_skeleton e.0 e.0) (each_same (map same_skeleton (map skeleton_in parts)) (map skeleton_in parts)) e.1 (each-itself parts)

abbrev layer_of : Skeleton-F Itself → Skeleton-F Skeleton
layer_of y = map-Skeleton Itself Skeleton skeleton_in y

of-layer : (y : Skeleton-F Itself) → same_step (map-Skeleton Skeleton Known same_skeleton (layer_of y)) (roll-Skeleton (layer_of y)) ≡ true
of-layer Skeleton-F.Leaf = ap is_leaf (out-roll-Skeleton Skeleton-F.Leaf)
of-layer Skeleton-F.Nothing = ap is_nothing (out-roll-Skeleton Skeleton-F.Nothing)
of-layer (Skeleton-F.List parts) =
    ap (is_list (map same_skeleton (map skeleton_in parts))) (out-roll-Skeleton (Skeleton-F.List (map skeleton_in parts))) ∙ each-itself parts
of-layer (Skeleton-F.Arms arms) =
    ap (is_arms (map same_skeleton (map skeleton_in arms))) (out-roll-Skeleton (Skeleton-F.Arms (map skeleton_in arms))) ∙ each-itself arms
of-layer (Skeleton-F.Each element) = ap (is_each (same_skeleton element.0)) (out-roll-Skeleton (Skeleton-F.Each element.0)) ∙ element.1
of-layer (Skeleton-F.Ref number) = ap (is_ref number) (out-roll-Skeleton (Skeleton-F.Ref number)) ∙ eq-eqb number number refl

pub same-itself : (s : Skeleton) → same_skeleton s s ≡ true
same-itself = ind-Skeleton Same (λ s y is.
    subst (λ layer. Same (roll-Skeleton layer)) is (same-roll (layer_of y) (roll-Skeleton (layer_of y)) ∙ of-layer y))

-- and no other is
abbrev SameIs : Skeleton → Type 0
SameIs s = (other : Skeleton) → same_skeleton s other ≡ true → s ≡ other

abbrev Only : Type 0
Only = (s : Skeleton) × SameIs s

abbrev only_in : Only → Skeleton
only_in e = e.0

each-is : (parts : List Only) (others : List Skeleton) → each_same (map same_skeleton (map only_in parts)) others ≡ true → map only_in parts ≡ others
each-is [] [] h = refl
each-is [] (other ∷ others) h = absurd cc
each-is (e ∷ parts) [] h = absurd cc
each-is (e ∷ parts) (other ∷ others) h =
    let all = and_parts (same_skeleton e.0 other) (each_same (map same_skeleton (map only_in parts)) others) h in
    ap (λ s. s ∷ map only_in parts) (e.1 other all.0) ∙ ap (λ rest. other ∷ rest) (each-is parts others all.1)

leaf-is : (o : Skeleton-F Skeleton) → is_leaf o ≡ true → Skeleton-F.Leaf ≡ o
leaf-is Skeleton-F.Leaf h = refl
leaf-is _ h = absurd cc

nothing-is : (o : Skeleton-F Skeleton) → is_nothing o ≡ true → Skeleton-F.Nothing ≡ o
nothing-is Skeleton-F.Nothing h = refl
nothing-is _ h = absurd cc

list-is : (parts : List Only) (o : Skeleton-F Skeleton) → is_list (map same_skeleton (map only_in parts)) o ≡ true → Skeleton-F.List (map only_in parts) ≡ o
list-is parts (Skeleton-F.List others) h = ap (λ parts. Skeleton-F.List parts) (each-is parts others h)
list-is parts _ h = absurd cc

arms-is : (arms : List Only) (o : Skeleton-F Skeleton) → is_arms (map same_skeleton (map only_in arms)) o ≡ true → Skeleton-F.Arms (map only_in arms) ≡ o
arms-is arms (Skeleton-F.Arms others) h = ap (λ arms. Skeleton-F.Arms arms) (each-is arms others h)
arms-is arms _ h = absurd cc

element-is : (element : Only) (o : Skeleton-F Skeleton) → is_each (same_skeleton element.0) o ≡ true → Skeleton-F.Each element.0 ≡ o
element-is element (Skeleton-F.Each other) h = ap (λ element. Skeleton-F.Each element) (element.1 other h)
element-is element _ h = absurd cc

ref-is : (number : ℕ) (o : Skeleton-F Skeleton) → is_ref number o ≡ true → Skeleton-F.Ref number ≡ o
ref-is number (Skeleton-F.Ref other) h = ap (λ number. Skeleton-F.Ref number) (eqb-true number other h)
ref-is number _ h = absurd cc

abbrev only_layer : Skeleton-F Only → Skeleton-F Skeleton
only_layer y = map-Skeleton Only Skeleton only_in y

layer-is : (y : Skeleton-F Only) (other : Skeleton) → same_step (map-Skeleton Skeleton Known same_skeleton (only_layer y)) other ≡ true → only_layer y ≡ out-Skeleton other
layer-is Skeleton-F.Leaf other = leaf-is (out-Skeleton other)
layer-is Skeleton-F.Nothing other = nothing-is (out-Skeleton other)
layer-is (Skeleton-F.List parts) other = list-is parts (out-Skeleton other)
layer-is (Skeleton-F.Arms arms) other = arms-is arms (out-Skeleton other)
layer-is (Skeleton-F.Each element) other = element-is element (out-Skeleton other)
layer-is (Skeleton-F.Ref number) other = ref-is number (out-Skeleton other)

pub same-is : (s : Skeleton) → SameIs s
same-is = ind-Skeleton SameIs (λ s y is.
    subst (λ layer. SameIs (roll-Skeleton layer)) is (λ other h.
    ap roll-Skeleton (layer-is y other (sym (same-roll (only_layer y) other) ∙ h)) ∙ roll-out-Skeleton other))
