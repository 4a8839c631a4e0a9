-- The equations of erasing, form by form.
use Rattle.std.proofs.Common.{◌≡◌, ◌≢◌, ◌∙◌, sym, ap, ℕ, zero, suc, ◌-◌, Bool, List, map, None, Some, slice_get, refl, arith}
use Rattle.pads_value.specs.declared.value.Val.{Val, out-Val}
use Rattle.pads_erase.specs.declared.skeleton.Keeping.{Keeping}
use Rattle.pads_erase.specs.declared.skeleton.Skeleton.{Skeleton, Skeleton-F, fold-roll-Skeleton, roll-Skeleton, map-Skeleton}
use Rattle.pads_erase.specs.declared.skeleton.Skeleton.TheVariants as skeleton
use Rattle.pads_erase.specs.Erasing.{Eraser, at_arms, at_each, at_leaf, at_list, by_keeping, erase, erase_by, erased, skeleton_step}

module _ (set : Bool) (call : ℕ → Eraser) where
  pub erase-roll : (layer : Skeleton-F Skeleton) (v : Val) → erase_by set call (roll-Skeleton layer) v ≡ skeleton_step set call (map-Skeleton Skeleton Eraser (erase_by set call) layer) v
  unfolding erase_by
  erase-roll layer v = ap (λ (eraser : Eraser). eraser v) (fold-roll-Skeleton Eraser (skeleton_step set call) layer)

  pub erase-Leaf : (v : Val) → erase_by set call skeleton.Leaf v ≡ at_leaf set v
  erase-Leaf v = ap (λ s. erase_by set call s v) (sym skeleton.rolls-Leaf) ∙ erase-roll Skeleton-F.Leaf v

  pub erase-Nothing : (v : Val) → erase_by set call skeleton.Nothing v ≡ v
  erase-Nothing v = ap (λ s. erase_by set call s v) (sym skeleton.rolls-Nothing) ∙ erase-roll Skeleton-F.Nothing v

  pub erase-List : (parts : List Skeleton) (v : Val) → erase_by set call (skeleton.List parts) v ≡ at_list (map (erase_by set call) parts) v (out-Val v)
  erase-List parts v = ap (λ s. erase_by set call s v) (sym (skeleton.rolls-List parts)) ∙ erase-roll (Skeleton-F.List parts) v

  pub erase-Arms : (arms : List Skeleton) (v : Val) → erase_by set call (skeleton.Arms arms) v ≡ at_arms (map (erase_by set call) arms) v (out-Val v)
  erase-Arms arms v = ap (λ s. erase_by set call s v) (sym (skeleton.rolls-Arms arms)) ∙ erase-roll (Skeleton-F.Arms arms) v

  pub erase-Each : (element : Skeleton) (v : Val) → erase_by set call (skeleton.Each element) v ≡ at_each (erase_by set call element) v (out-Val v)
  erase-Each element v = ap (λ s. erase_by set call s v) (sym (skeleton.rolls-Each element)) ∙ erase-roll (Skeleton-F.Each element) v

  pub erase-Ref : (number : ℕ) (v : Val) → erase_by set call (skeleton.Ref number) v ≡ call number v
  erase-Ref number v = ap (λ s. erase_by set call s v) (sym (skeleton.rolls-Ref number)) ∙ erase-roll (Skeleton-F.Ref number) v

pub ruleset erase_rules = (
  erase-Leaf,
  erase-Nothing,
  erase-List,
  erase-Arms,
  erase-Each,
  erase-Ref,
)

pub erased-zero : (keepings : List Keeping) (number : ℕ) (v : Val) → erased keepings zero number v ≡ v
unfolding erased
erased-zero keepings number v = refl

pub erased-suc : (keepings : List Keeping) (depth number : ℕ) (v : Val)
    → erased keepings (suc depth) number v ≡ by_keeping (erased keepings depth) (slice_get keepings number) v
unfolding erased
erased-suc keepings depth number v = refl

-- where references may be nested
pub erased-nowhere : (keepings : List Keeping) (depth number : ℕ) (v : Val) → depth ≢ 0 → slice_get keepings number ≡ None → erased keepings depth number v ≡ v
erased-nowhere keepings zero number v some none = absurd (some refl)
erased-nowhere keepings (suc depth) number v some none =
    erased-suc keepings depth number v ∙ ap (λ found. by_keeping (erased keepings depth) found v) none

pub erased-there : (keepings : List Keeping) (depth number : ℕ) (keeping : Keeping) (v : Val) → depth ≢ 0 → slice_get keepings number ≡ Some keeping
    → erased keepings depth number v ≡ erase keepings (depth - 1) keeping.set keeping.skeleton v
erased-there keepings zero number keeping v some there = absurd (some refl)
erased-there keepings (suc depth) number keeping v some there =
    let less : suc depth - 1 ≡ depth = omega arith in
    rw less (erased-suc keepings depth number v ∙ ap (λ found. by_keeping (erased keepings depth) found v) there)
