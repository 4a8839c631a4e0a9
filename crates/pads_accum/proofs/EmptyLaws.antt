-- The sums of no rows.
use Rattle.std.proofs.Common.{◌≡◌, ◌∙◌, sym, ap, refl, ℕ, ◌+◌, ◌<◌, ◌≤◌, true, List, [], ◌∷◌, ◌++◌, length, map, take, get_or, Option}
use Rattle.std.proofs.lemmas.List.{map-append, take_all, take_more}
use Rattle.pads_plan.specs.declared.part.PlanList.{PlanList}
use Rattle.pads_plan.specs.declared.part.PlanPart.{PlanPart}
use Rattle.pads_sums.specs.Sums.{part_sum}
use Rattle.pads_accum.specs.Feeding.{lists_within, parts_within}
use Rattle.pads_accum.specs.Summaries.{list_summed, lists_summed, parts_summed, summed}

module _ {X Y : Type 0} (f : X → Y) (xs : List X) where
  -- one item more
  pub map_more : (i : ℕ) (x : X) (done : List Y) (y : Y) → i < length xs → x ≡ get_or xs i x → done ≡ map f (take i xs) → y ≡ f x → done ++ y ∷ [] ≡ map f (take (i + 1) xs)
  map_more i x done y within there so_far is =
      (λ k. so_far k ++ is k ∷ [])
      ∙ ap (λ z. map f (take i xs) ++ f z ∷ []) there
      ∙ sym (map-append f (take i xs) (get_or xs i x ∷ []))
      ∙ ap (map f) (sym (take_more xs i x within))

  pub map_all : (n : ℕ) → length xs ≤ n → map f (take n xs) ≡ map f xs
  map_all n all = ap (map f) (take_all n xs all)

module _ (room : Option ℕ) where
  pub empty_sums : (all : List PlanPart) (at : ℕ) (parts : List PlanPart) → map (λ part. part_sum room part.place part.form []) parts ≡ parts_summed room all [] at parts
  empty_sums all at [] = refl
  empty_sums all at (part ∷ parts) = ap (λ sums. part_sum room part.place part.form [] ∷ sums) (empty_sums all (at + 1) parts)

  pub empty_lists : (count at : ℕ) (plans : List PlanList) → map (λ plan. list_summed room plan []) plans ≡ lists_summed room count at plans []
  empty_lists count at [] = refl
  empty_lists count at (plan ∷ plans) = ap (λ lists. list_summed room plan [] ∷ lists) (empty_lists count (at + 1) plans)

  -- all counts are 0
  zero-parts : (all : List PlanPart) (at : ℕ) (parts : List PlanPart) → parts_within 0 (parts_summed room all [] at parts) ≡ true
  zero-parts all at [] = refl
  zero-parts all at (part ∷ parts) = zero-parts all (at + 1) parts

  zero-lists : (count at : ℕ) (plans : List PlanList) → lists_within 0 (lists_summed room count at plans []) ≡ true
  zero-lists count at [] = refl
  zero-lists count at (plan ∷ plans) = rw (zero-parts plan.parts 0 plan.parts) (zero-lists count (at + 1) plans)

  pub zero_within : (plan : List PlanList) → lists_within 0 (summed room plan []) ≡ true
  zero_within plan = zero-lists (length plan) 0 plan
