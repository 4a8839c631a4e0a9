-- Induction over skeletons and over the depth of references: what holds of each form's eraser, where it holds
-- of the erasers in it, holds of every eraser.
use Rattle.std.proofs.Common.{◌≡◌, sym, subst, ℕ, zero, suc, Bool, List, [], ◌∷◌, map, Option, None, Some, slice_get, refl}
use Rattle.std.specs.Prelude.{⊤}
use Rattle.pads_value.specs.declared.value.Val.{Val, out-Val}
use Rattle.pads_erase.specs.declared.skeleton.Keeping.{Keeping}
use Rattle.pads_erase.specs.declared.skeleton.Skeleton.{Skeleton, Skeleton-F, fold-roll-Skeleton, ind-Skeleton, map-Skeleton, roll-Skeleton}
use Rattle.pads_erase.specs.Erasing.{Eraser, at_arms, at_each, at_leaf, at_list, by_keeping, erase_by, erased, skeleton_step}
use Rattle.pads_erase.proofs.Rolls.{erased-zero, erased-suc}

-- a property of erasers, where some flags are met
module _ (Holds : Eraser → Type 0) (Met : Bool → Type 0) where
  abbrev pub Each : List Eraser → Type 0
  Each [] = ⊤
  Each (eraser ∷ erasers) = Holds eraser × Each erasers

  -- of each form, where it holds of the erasers in it
  pub record EachForm : Type 0 where
    pub of_leaf : (set : Bool) → Met set → Holds (at_leaf set)
    pub of_nothing : Holds (λ v. v)
    pub of_list : (parts : List Eraser) → Each parts → Holds (λ v. at_list parts v (out-Val v))
    pub of_arms : (arms : List Eraser) → Each arms → Holds (λ v. at_arms arms v (out-Val v))
    pub of_each : (element : Eraser) → Holds element → Holds (λ v. at_each element v (out-Val v))

  module _ (forms : EachForm) where
    module _ (set : Bool) (met : Met set) (call : ℕ → Eraser) (called : (number : ℕ) → Holds (call number)) where
      abbrev Known : Type 0
      Known = (s : Skeleton) × Holds (erase_by set call s)

      abbrev known_skeleton : Known → Skeleton
      known_skeleton e = e.0

      each-known : (known : List Known) → Each (map (erase_by set call) (map known_skeleton known))
      each-known [] = tt
      each-known (e ∷ known) = (e.1, each-known known)

      of-layer : (y : Skeleton-F Known) → Holds (skeleton_step set call (map-Skeleton Skeleton Eraser (erase_by set call) (map-Skeleton Known Skeleton known_skeleton y)))
      of-layer Skeleton-F.Leaf = forms.of_leaf set met
      of-layer Skeleton-F.Nothing = forms.of_nothing
      of-layer (Skeleton-F.List parts) = forms.of_list (map (erase_by set call) (map known_skeleton parts)) (each-known parts)
      of-layer (Skeleton-F.Arms arms) = forms.of_arms (map (erase_by set call) (map known_skeleton arms)) (each-known arms)
      of-layer (Skeleton-F.Each element) = forms.of_each (erase_by set call element.0) element.1
      of-layer (Skeleton-F.Ref number) = called number

      erase-step : (layer : Skeleton-F Skeleton) → erase_by set call (roll-Skeleton layer) ≡ skeleton_step set call (map-Skeleton Skeleton Eraser (erase_by set call) layer)
      unfolding erase_by
      erase-step layer = fold-roll-Skeleton Eraser (skeleton_step set call) layer

      pub each-skeleton : (s : Skeleton) → Holds (erase_by set call s)
      each-skeleton = ind-Skeleton (λ s. Holds (erase_by set call s)) (λ x y is.
          subst (λ layer. Holds (erase_by set call (roll-Skeleton layer))) is
          (subst Holds (sym (erase-step (map-Skeleton Known Skeleton known_skeleton y))) (of-layer y)))

    module _ (keepings : List Keeping) (met : (number : ℕ) (keeping : Keeping) → slice_get keepings number ≡ Some keeping → Met keeping.set) where
      found-holds : (call : ℕ → Eraser) → ((number : ℕ) → Holds (call number)) → (number : ℕ) (found : Option Keeping) → slice_get keepings number ≡ found
          → Holds (by_keeping call found)
      found-holds call called number None is = forms.of_nothing
      found-holds call called number (Some keeping) is = each-skeleton keeping.set (met number keeping is) call called keeping.skeleton

      pub each-erased : (depth number : ℕ) → Holds (erased keepings depth number)
      each-erased zero number = let same : (λ (v : Val). v) ≡ erased keepings zero number = λ i v. sym (erased-zero keepings number v) i in subst Holds same forms.of_nothing
      each-erased (suc depth) number =
          let same : by_keeping (erased keepings depth) (slice_get keepings number) ≡ erased keepings (suc depth) number = λ i v. sym (erased-suc keepings depth number v) i in
          subst Holds same (found-holds (erased keepings depth) (λ n. each-erased depth n) number (slice_get keepings number) refl)
