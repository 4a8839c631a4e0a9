-- How many nodes of a part there are among those of a row.
use Rattle.std.proofs.Common.{◌≡◌, ◌∙◌, sym, ap, refl, ℕ, ◌+◌, nat_eq, Bool, true, false, not, ◌&&◌, cond, List, [], ◌∷◌, map, arith}
use Rattle.std.specs.List.{count_by, filter}
use Rattle.pads_sums.proofs.Lists.{count_cons}
use Rattle.pads_accum.specs.Summaries.{picked}
use Rattle.pads_accum.specs.Walks.{found_seen}
use Rattle.pads_accum.specs.declared.place.Found.{Found}

module _ (at : ℕ) (test : Bool → Bool) where
  picked-step : (found : Found) (nodes : List Found) (b : Bool)
      → count_by (λ found. nat_eq found.part at && test found.clean) nodes ≡ count_by (λ node. test node.clean) (picked at (map found_seen nodes))
      → cond (b && test found.clean) 1 0 + count_by (λ found. nat_eq found.part at && test found.clean) nodes
      ≡ count_by (λ node. test node.clean) (map (λ placed. placed.node) (cond b (found_seen found ∷ filter (λ placed. nat_eq placed.part at) (map found_seen nodes)) (filter (λ placed. nat_eq placed.part at) (map found_seen nodes))))
  picked-step found nodes true rest =
      ap (λ n. cond (test found.clean) 1 0 + n) rest ∙ sym (count_cons (λ node. test node.clean) (found_seen found).node (picked at (map found_seen nodes)))
  picked-step found nodes false rest = (let e : 0 + count_by (λ found. nat_eq found.part at && test found.clean) nodes ≡ count_by (λ found. nat_eq found.part at && test found.clean) nodes = omega arith in e) ∙ rest

  pub picked_count : (nodes : List Found)
      → count_by (λ found. nat_eq found.part at && test found.clean) nodes ≡ count_by (λ node. test node.clean) (picked at (map found_seen nodes))
  picked_count [] = refl
  picked_count (found ∷ nodes) =
      count_cons (λ found. nat_eq found.part at && test found.clean) found nodes ∙ picked-step found nodes (nat_eq found.part at) (picked_count nodes)

pub good_counted : (at : ℕ) (nodes : List Found)
    → count_by (λ found. nat_eq found.part at && found.clean) nodes ≡ count_by (λ node. node.clean) (picked at (map found_seen nodes))
good_counted at nodes = picked_count at (λ b. b) nodes

pub bad_counted : (at : ℕ) (nodes : List Found)
    → count_by (λ found. nat_eq found.part at && not found.clean) nodes ≡ count_by (λ node. not node.clean) (picked at (map found_seen nodes))
bad_counted at nodes = picked_count at not nodes
