-- Whether two skeletons are the same, and what the entries of an image keep.
use Rattle.std.specs.Prelude.{ℕ, Bool, true, false, ◌&&◌, nat_eq, List, [], ◌∷◌, map, Option, Some, None, if◌then◌else◌}
use Rattle.std.specs.List.{list_all}
use Rattle.pads_erase.specs.declared.skeleton.Keeping.{Keeping}
use Rattle.pads_erase.specs.declared.skeleton.Skeleton.{Skeleton, Skeleton-F, fold-Skeleton, out-Skeleton}
use Rattle.pads_image.specs.declared.entry.Entry.{Entry}

-- whether a skeleton is one that is known
abbrev pub Known : Type 0
Known = Skeleton → Bool

abbrev pub each_same : List Known → List Skeleton → Bool
each_same [] [] = true
each_same [] (other ∷ others) = false
each_same (known ∷ knowns) [] = false
each_same (known ∷ knowns) (other ∷ others) = known other && each_same knowns others

abbrev pub is_leaf : Skeleton-F Skeleton → Bool
is_leaf Skeleton-F.Leaf = true
is_leaf _ = false

abbrev pub is_nothing : Skeleton-F Skeleton → Bool
is_nothing Skeleton-F.Nothing = true
is_nothing _ = false

abbrev pub is_list : List Known → Skeleton-F Skeleton → Bool
is_list parts (Skeleton-F.List others) = each_same parts others
is_list parts _ = false

abbrev pub is_arms : List Known → Skeleton-F Skeleton → Bool
is_arms arms (Skeleton-F.Arms others) = each_same arms others
is_arms arms _ = false

abbrev pub is_each : Known → Skeleton-F Skeleton → Bool
is_each element (Skeleton-F.Each other) = element other
is_each element _ = false

abbrev pub is_ref : ℕ → Skeleton-F Skeleton → Bool
is_ref number (Skeleton-F.Ref other) = nat_eq number other
is_ref number _ = false

abbrev pub same_step : Skeleton-F Known → Known
same_step Skeleton-F.Leaf other = is_leaf (out-Skeleton other)
same_step Skeleton-F.Nothing other = is_nothing (out-Skeleton other)
same_step (Skeleton-F.List parts) other = is_list parts (out-Skeleton other)
same_step (Skeleton-F.Arms arms) other = is_arms arms (out-Skeleton other)
same_step (Skeleton-F.Each element) other = is_each element (out-Skeleton other)
same_step (Skeleton-F.Ref number) other = is_ref number (out-Skeleton other)

unfoldable pub same_skeleton : Skeleton → Known
same_skeleton = fold-Skeleton Known same_step

-- what the declarations of entries keep
abbrev pub kept_in : List Entry → List Keeping
kept_in entries = map (λ entry. record { set = entry.set; skeleton = entry.skeleton }) entries

-- each declaration keeps the values of its own body
abbrev pub all_set : List Entry → Bool
all_set entries = list_all (λ entry. entry.set) entries

-- what is looked up where values are erased; none where all are kept
abbrev pub erasing_in : List Entry → Option (List Keeping)
erasing_in entries = if all_set entries then None else Some (kept_in entries)
