-- A number of 2^64 or more is no kind's, whatever its sign, so that it may be cut off there.
use Rattle.std.proofs.Common.{◌≡◌, ℕ, zero, suc, ◌≤◌, ◌^◌, Bool, true, false, min, pos, negsuc, refl, ap, arith, inl, inr}
use Rattle.std.proofs.lemmas.Bool.{cases_lt}
use Rattle.std.proofs.lemmas.Int.{ints}
use Rattle.pads_int.specs.declared.kind.Kind.{Kind}
use Rattle.pads_int.specs.declared.kind.Kind.TheVariants.{I8, I16, I32, I64, U8, U16, U32, U64}
use Rattle.pads_int.specs.Kinds.{in_range}
use Rattle.pads_int.specs.Readings.{signed_number, ranged}

above : (kind : Kind) (n : ℕ) → 2 ^ 64 ≤ n → in_range kind (pos n) ≡ false
above I8 n h = grind (arith, ints)
above I16 n h = grind (arith, ints)
above I32 n h = grind (arith, ints)
above I64 n h = grind (arith, ints)
above U8 n h = grind (arith, ints)
above U16 n h = grind (arith, ints)
above U32 n h = grind (arith, ints)
above U64 n h = grind (arith, ints)

below : (kind : Kind) (n : ℕ) → 2 ^ 64 ≤ suc n → in_range kind (negsuc n) ≡ false
below I8 n h = grind (arith, ints)
below I16 n h = grind (arith, ints)
below I32 n h = grind (arith, ints)
below I64 n h = grind (arith, ints)
below U8 n h = grind (arith, ints)
below U16 n h = grind (arith, ints)
below U32 n h = grind (arith, ints)
below U64 n h = grind (arith, ints)

pub beyond : (kind : Kind) (negative : Bool) (n : ℕ) → 2 ^ 64 ≤ n → in_range kind (signed_number negative n) ≡ false
beyond kind false n h = above kind n h
beyond kind true zero h = absurd (omega arith)
beyond kind true (suc n) h = below kind n h

-- cut off there, the number reads the same
pub ranged-min : (kind : Kind) (size : ℕ) (negative : Bool) (n : ℕ) → ranged kind size (signed_number negative (min n (2 ^ 64))) ≡ ranged kind size (signed_number negative n)
ranged-min kind size negative n = elim (cases_lt n (2 ^ 64)) [
  | inl lt ↦ ap (λ m. ranged kind size (signed_number negative m)) (omega arith)
  | inr le ↦
      let cut : min n (2 ^ 64) ≡ 2 ^ 64 = omega arith in
      rw (cut, beyond kind negative (2 ^ 64) (omega arith), beyond kind negative n le) refl
]
