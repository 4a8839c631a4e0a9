-- A search through two lists that has passed the end of one of them.
use Rattle.std.proofs.Math.Seq.{drop-cons}
use Rattle.std.proofs.Common.{◌≡◌, ◌∙◌, sym, refl, ap, ℕ, zero, suc, ◌+◌, ◌≤◌, ◌<◌, min, List, [], ◌∷◌, length, drop, get_or, Option, Some, None, is_some, false, true≢false, arith}
use Rattle.pads_sums.specs.declared.part_sum.PartSum.{PartSum}
use Rattle.pads_sums.specs.declared.part_sum.SumList.{SumList}
use Rattle.pads_accum.specs.Limits.{merging_over, or_else, sums_over}
use Rattle.pads_accum.specs.Feeding.{before_list}
use Rattle.pads_accum.specs.declared.limit.Limit.{Limit}

none-later : (number : ℕ) (sums : List PartSum) → sums_over number sums [] ≡ None
none-later number [] = refl
none-later number (sum ∷ sums) = refl

pub sums_done : (number at : ℕ) (sums later : List PartSum) → min (length sums) (length later) ≤ at → sums_over number (drop at sums) (drop at later) ≡ None
sums_done number zero [] later all = refl
sums_done number (suc at) [] later all = refl
sums_done number zero (sum ∷ sums) [] all = refl
sums_done number (suc at) (sum ∷ sums) [] all = none-later number (drop at sums)
sums_done number zero (sum ∷ sums) (l ∷ later) all = absurd (omega (arith, all))
sums_done number (suc at) (sum ∷ sums) (l ∷ later) all = sums_done number at sums later (omega (arith, all))

none-more : (before : ℕ) (lists : List SumList) → merging_over before lists [] ≡ None
none-more before [] = refl
none-more before (list ∷ lists) = refl

pub lists_done : (before at : ℕ) (lists later : List SumList) → min (length lists) (length later) ≤ at → merging_over before (drop at lists) (drop at later) ≡ None
lists_done before zero [] later all = refl
lists_done before (suc at) [] later all = refl
lists_done before zero (list ∷ lists) [] all = refl
lists_done before (suc at) (list ∷ lists) [] all = none-more before (drop at lists)
lists_done before zero (list ∷ lists) (l ∷ later) all = absurd (omega (arith, all))
lists_done before (suc at) (list ∷ lists) (l ∷ later) all = lists_done before at lists later (omega (arith, all))

before-next : (lists : List SumList) (at : ℕ) (d : SumList) → at < length lists → before_list lists (suc at) ≡ before_list lists at + length (get_or lists at d).parts
before-next [] at d within = absurd (omega (arith, within))
before-next (list ∷ lists) zero d within = omega arith
before-next (list ∷ lists) (suc at) d within = let rest = before-next lists at d (omega (arith, within)) in omega (arith, rest)

pub none_of : {A : Type 0} (o : Option A) → false ≡ is_some o → o ≡ None
none_of None is = refl
none_of (Some a) is = absurd (true≢false (sym is))

-- one list without a count that passes
pub lists_next : (lists later : List SumList) (at : ℕ) (d e : SumList) (whole : Option Limit) → at < length lists → at < length later
    → None ≡ sums_over (before_list lists at) (get_or lists at d).parts (get_or later at e).parts
    → merging_over (before_list lists at) (drop at lists) (drop at later) ≡ whole
    → merging_over (before_list lists (at + 1)) (drop (at + 1) lists) (drop (at + 1) later) ≡ whole
lists_next lists later at d e whole within there none before =
    let opened : or_else (sums_over (before_list lists at) (get_or lists at d).parts (get_or later at e).parts)
    (merging_over (before_list lists at + length (get_or lists at d).parts) (drop (suc at) lists) (drop (suc at) later)) ≡ whole
    = (λ i. merging_over (before_list lists at) (sym (drop-cons lists at d within) i) (sym (drop-cons later at e there) i)) ∙ before in
    let one : suc at ≡ at + 1 = omega arith in
    (λ i. merging_over (before_list lists (sym one i)) (drop (sym one i) lists) (drop (sym one i) later))
    ∙ ap (λ n. merging_over n (drop (suc at) lists) (drop (suc at) later)) (before-next lists at d within)
    ∙ ap (λ o. or_else o (merging_over (before_list lists at + length (get_or lists at d).parts) (drop (suc at) lists) (drop (suc at) later))) none
    ∙ opened
