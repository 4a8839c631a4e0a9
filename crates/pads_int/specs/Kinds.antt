-- The eight kinds of integers with their usual ranges: a signed kind of b bits goes from -2^(b-1) to
-- 2^(b-1) - 1, an unsigned one from 0 to 2^b - 1.
use Rattle.std.specs.Prelude.{ℤ, pos, negsuc, Bool, true, false, ◌&&◌, not, ◌-◌, ◌^◌, ◌≤ℤ◌, int_lt}
use Rattle.pads_int.specs.declared.kind.Kind.{Kind}
use Rattle.pads_int.specs.declared.kind.Kind.TheVariants.{I8, I16, I32, I64, U8, U16, U32, U64}

abbrev pub is_signed : Kind → Bool
is_signed I8 = true
is_signed I16 = true
is_signed I32 = true
is_signed I64 = true
is_signed U8 = false
is_signed U16 = false
is_signed U32 = false
is_signed U64 = false

-- the least number; `negsuc n` is -(n + 1)
abbrev pub least : Kind → ℤ
least I8 = negsuc (2 ^ 7 - 1)
least I16 = negsuc (2 ^ 15 - 1)
least I32 = negsuc (2 ^ 31 - 1)
least I64 = negsuc (2 ^ 63 - 1)
least U8 = pos 0
least U16 = pos 0
least U32 = pos 0
least U64 = pos 0

-- the greatest number
abbrev pub greatest : Kind → ℤ
greatest I8 = pos (2 ^ 7 - 1)
greatest I16 = pos (2 ^ 15 - 1)
greatest I32 = pos (2 ^ 31 - 1)
greatest I64 = pos (2 ^ 63 - 1)
greatest U8 = pos (2 ^ 8 - 1)
greatest U16 = pos (2 ^ 16 - 1)
greatest U32 = pos (2 ^ 32 - 1)
greatest U64 = pos (2 ^ 64 - 1)

-- the number is one of the kind's
abbrev pub InRange : Kind → ℤ → Type 0
InRange kind v = (least kind ≤ℤ v) × (v ≤ℤ greatest kind)

-- the same as a test that computes
abbrev pub in_range : Kind → ℤ → Bool
in_range kind v = not (int_lt v (least kind)) && not (int_lt (greatest kind) v)
