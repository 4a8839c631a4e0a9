-- The measure of erasing: references that may still be nested, each worth more than any skeleton, and then
-- the skeleton.
use Rattle.std.proofs.Common.{◌≡◌, ◌≢◌, ℕ, zero, suc, ◌+◌, ◌-◌, ◌*◌, ◌<◌, ◌≤◌, List, [], ◌∷◌, Some, slice_get, refl, arith}
use denote.Param.Weighed.{most}
use Rattle.pads_erase.specs.declared.skeleton.Keeping.{Keeping}
use Rattle.pads_erase.specs.declared.skeleton.Skeleton.{Skeleton, size-Skeleton, the_lemmas}
use Rattle.pads_erase.specs.declared.skeleton.Skeleton.TheVariants as skeleton

pub size-List : (parts : List Skeleton) → most size-Skeleton parts < size-Skeleton (skeleton.List parts)
size-List parts = grind (arith, the_lemmas)

pub size-Arms : (arms : List Skeleton) → most size-Skeleton arms < size-Skeleton (skeleton.Arms arms)
size-Arms arms = grind (arith, the_lemmas)

pub size-Each : (element : Skeleton) → size-Skeleton element < size-Skeleton (skeleton.Each element)
size-Each element = grind (arith, the_lemmas)

-- each item of a list is at most as large as the largest
pub most-there : {A : Type 0} (size : A → ℕ) (xs : List A) (n : ℕ) (x : A) → slice_get xs n ≡ Some x → size x ≤ most size xs
most-there size [] n x there = cc
most-there size (y ∷ xs) zero x there = let e : x ≡ y = cc in rw e (omega arith)
most-there size (y ∷ xs) (suc n) x there = omega (arith, most-there size xs n x there)

abbrev skeleton_size : Keeping → ℕ
skeleton_size keeping = 4 * size-Skeleton keeping.skeleton

-- more than the size of any skeleton
unfoldable pub weight : List Keeping → ℕ
weight keepings = most skeleton_size keepings + 4

pub weight-call : (keepings : List Keeping) (n : ℕ) (keeping : Keeping) (depth : ℕ) → depth ≢ 0 → slice_get keepings n ≡ Some keeping →
    (depth - 1) * weight keepings + 4 * size-Skeleton keeping.skeleton + 3 < depth * weight keepings
unfolding weight
weight-call keepings n keeping zero some there = absurd (some refl)
weight-call keepings n keeping (suc depth) some there =
    let less : suc depth - 1 ≡ depth = omega arith in
    let one : skeleton_size keeping + 3 < most skeleton_size keepings + 4 = omega (arith, most-there skeleton_size keepings n keeping there) in
    rw less (omega (arith, one))
