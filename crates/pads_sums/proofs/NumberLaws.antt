-- The numbers among samples, one more of them, and how large their sum is.
use Rattle.std.proofs.Common.{◌≡◌, sym, ap, refl, ℕ, ℤ, pos, negsuc, suc, ◌+◌, ◌*◌, ◌-◌, ◌^◌, ◌+ℤ◌, ◌≤ℤ◌, ◌≤◌, nat_eq, Bool, true, false, ◌&&◌, true≢false, List, [], ◌∷◌, ◌++◌, length, fold, if◌then◌else◌, ltb-true, ne_eqb, subst, arith}
use Rattle.std.specs.Int.{saturate_signed, w128}
use Rattle.std.specs.List.{list_all}
use Rattle.std.proofs.lemmas.Int.{ints}
use Rattle.std.proofs.lemmas.List.Sums.{fold_push}
use lib.IntN.{neg_ℤ}
use Rattle.pads_sums.specs.Nodes.{in_range}
use Rattle.pads_sums.specs.Sums.{over_all, total}

-- the least and the greatest of one number more
pub over_all_next : (f : ℤ → ℤ → ℤ) (ns : List ℤ) (n : ℤ) → over_all f (ns ++ n ∷ []) ≡ (if nat_eq (length ns) 0 then n else f (over_all f ns) n)
over_all_next f [] n = refl
over_all_next f (x ∷ ns) n = rw (ne_eqb (suc (length ns)) 0 (λ e. omega arith)) (fold_push f x ns n)

pub total_next : (ns : List ℤ) (n : ℤ) → total (ns ++ n ∷ []) ≡ total ns +ℤ n
total_next ns n = fold_push (λ so_far number. so_far +ℤ number) (pos 0) ns n

-- from -m to m
pub record Within (m : ℕ) (z : ℤ) : Type 0 where
  pub above : neg_ℤ (pos m) ≤ℤ z
  pub below : z ≤ℤ pos m

number-within : (n : ℤ) → in_range n ≡ true → Within (2 ^ 64) n
number-within (pos n) range = let h = ltb-true n (2 ^ 64) range in record { above = omega (arith, ints); below = omega (arith, ints) }
number-within (negsuc n) range = let h = ltb-true n (2 ^ 63) range in record { above = omega (arith, ints); below = omega (arith, ints) }

pub plus-within : (a b : ℕ) (x y : ℤ) → Within a x → Within b y → Within (a + b) (x +ℤ y)
plus-within a b x y hx hy =
    let x_above = hx.above in
    let x_below = hx.below in
    let y_above = hy.above in
    let y_below = hy.below in
    record { above = omega (arith, ints); below = omega (arith, ints) }

fold-step : (n : ℤ) (ns : List ℤ) (b : Bool) → in_range n ≡ b → (b && list_all in_range ns) ≡ true → (in_range n ≡ true) × (list_all in_range ns ≡ true)
fold-step n ns true is all = (is, all)
fold-step n ns false is all = absurd (true≢false (sym all))

fold-within : (ns : List ℤ) (a : ℤ) (m : ℕ) → Within m a → list_all in_range ns ≡ true → Within (m + length ns * 2 ^ 64) (fold (λ so_far number. so_far +ℤ number) a ns)
fold-within [] a m h all = let e : m ≡ m + 0 = omega arith in subst (λ k. Within k a) e h
fold-within (n ∷ ns) a m h all =
    let both = fold-step n ns (in_range n) refl all in
    let e : m + 2 ^ 64 + length ns * 2 ^ 64 ≡ m + suc (length ns) * 2 ^ 64 = omega arith in
    let P : ℕ → Type 0 = λ k. Within k (fold (λ so_far number. so_far +ℤ number) (a +ℤ n) ns) in
    subst P e (fold-within ns (a +ℤ n) (m + 2 ^ 64) (plus-within m (2 ^ 64) a n h (number-within n both.0)) both.1)

pub total_within : (ns : List ℤ) → list_all in_range ns ≡ true → Within (length ns * 2 ^ 64) (total ns)
total_within ns all =
    let zero_within : Within 0 (pos 0) = record { above = omega (arith, ints); below = omega (arith, ints) } in
    let e : 0 + length ns * 2 ^ 64 ≡ length ns * 2 ^ 64 = omega arith in
    subst (λ k. Within k (total ns)) e (fold-within ns (pos 0) 0 zero_within all)

pub fits-wide : (m : ℕ) (z : ℤ) → m ≤ 2 ^ 127 - 1 → Within m z → saturate_signed w128 z ≡ z
fits-wide m (pos n) small h = let below = h.below in ap pos (omega (arith, ints))
fits-wide m (negsuc n) small h = let above = h.above in ap negsuc (omega (arith, ints))

-- the sum of few numbers fits 128 bits
pub sum_fits : (ns : List ℤ) (n : ℤ) → length ns ≤ 2 ^ 62 → list_all in_range ns ≡ true → in_range n ≡ true → saturate_signed w128 (total ns +ℤ n) ≡ total ns +ℤ n
sum_fits ns n few all range =
    fits-wide (length ns * 2 ^ 64 + 2 ^ 64) (total ns +ℤ n) (omega arith) (plus-within (length ns * 2 ^ 64) (2 ^ 64) (total ns) n (total_within ns all) (number-within n range))
