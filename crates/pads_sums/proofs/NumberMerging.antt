-- The numbers among two lists of samples one after the other: the least, the greatest and the sum of all.
use Rattle.std.proofs.Common.{◌≡◌, ◌∙◌, sym, ap, refl, ℤ, pos, suc, ◌+◌, ◌*◌, ◌^◌, ◌+ℤ◌, ◌≤◌, true, List, [], ◌∷◌, ◌++◌, length, fold, ne_eqb, arith}
use Rattle.std.specs.Int.{int_min, int_max, saturate_signed, w128}
use Rattle.std.specs.List.{list_all}
use Rattle.std.proofs.lemmas.Int.{clamps, ints}
use Rattle.std.proofs.lemmas.List.{append-nil}
use Rattle.std.proofs.lemmas.List.Sums.{fold-append}
use Rattle.std.proofs.Math.IntN.{+ℤ_assoc}
use Rattle.pads_sums.specs.Merging.{outermost}
use Rattle.pads_sums.specs.Nodes.{in_range}
use Rattle.pads_sums.specs.Sums.{over_all, total}
use Rattle.pads_sums.proofs.NumberLaws.{fits-wide, plus-within, total_within}

pub min_assoc : (a b c : ℤ) → int_min (int_min a b) c ≡ int_min a (int_min b c)
min_assoc a b c = omega (arith, ints, clamps)

pub max_assoc : (a b c : ℤ) → int_max (int_max a b) c ≡ int_max a (int_max b c)
max_assoc a b c = omega (arith, ints, clamps)

module _ (f : ℤ → ℤ → ℤ) (assoc : (a b c : ℤ) → f (f a b) c ≡ f a (f b c)) where
  fold-shift : (a b : ℤ) (ns : List ℤ) → fold f (f a b) ns ≡ f a (fold f b ns)
  fold-shift a b [] = refl
  fold-shift a b (n ∷ ns) = ap (λ c. fold f c ns) (assoc a b n) ∙ fold-shift a (f b n) ns

  -- the outermost of both lists
  pub over_all_append : (ns ms : List ℤ) → over_all f (ns ++ ms) ≡ outermost f (length ns) (over_all f ns) (length ms) (over_all f ms)
  over_all_append ns [] = ap (over_all f) (append-nil ns)
  over_all_append [] (m ∷ ms) = rw (ne_eqb (suc (length ms)) 0 (λ e. omega arith)) refl
  over_all_append (n ∷ ns) (m ∷ ms) =
      rw (ne_eqb (suc (length ms)) 0 (λ e. omega arith), ne_eqb (suc (length ns)) 0 (λ e. omega arith))
      (fold-append f n ns (m ∷ ms) ∙ fold-shift (fold f n ns) m ms)

zero-first : (z : ℤ) → pos 0 +ℤ z ≡ z
zero-first z = omega (arith, ints)

pub total_append : (ns ms : List ℤ) → total (ns ++ ms) ≡ total ns +ℤ total ms
total_append ns ms =
    let plus : ℤ → ℤ → ℤ = λ a b. a +ℤ b in
    fold-append plus (pos 0) ns ms ∙ zero-last (total ns) ms
  where
    zero-last : (z : ℤ) (ms : List ℤ) → fold (λ so_far number. so_far +ℤ number) z ms ≡ z +ℤ total ms
    zero-last z ms =
        let same : z +ℤ pos 0 ≡ z = omega (arith, ints) in
        ap (λ a. fold (λ so_far number. so_far +ℤ number) a ms) (sym same) ∙ fold-shift (λ so_far number. so_far +ℤ number) +ℤ_assoc z (pos 0) ms

-- the sum of both fits 128 bits
pub sums_fit : (ns ms : List ℤ) → length ns + length ms ≤ 2 ^ 62 → list_all in_range ns ≡ true → list_all in_range ms ≡ true
    → saturate_signed w128 (total ns +ℤ total ms) ≡ total ns +ℤ total ms
sums_fit ns ms few all more =
    fits-wide (length ns * 2 ^ 64 + length ms * 2 ^ 64) (total ns +ℤ total ms) (omega arith)
    (plus-within (length ns * 2 ^ 64) (length ms * 2 ^ 64) (total ns) (total ms) (total_within ns all) (total_within ms more))
