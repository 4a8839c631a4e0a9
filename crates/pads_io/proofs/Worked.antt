-- What the definitions say at some values.
use Rattle.std.proofs.Common.{◌≡◌, ℕ, ◌-◌, ◌^◌, ◌<◌, ◌≤◌, ◌⊎◌, refl, arith}
use Rattle.pads_io.specs.Faults.{raised, Rose}
use Rattle.pads_io.specs.InMemory.{portion}

-- the count rose, or stands at its last value; and the other way round
pub Rose-means : (before now : ℕ) → Rose before now → (before < now) ⊎ (2 ^ 64 - 1 ≤ now)
Rose-means before now rose = grind arith

pub Rose-larger : (before now : ℕ) → before < now → Rose before now
Rose-larger before now larger = omega arith

pub Rose-last : (before : ℕ) → Rose before (2 ^ 64 - 1)
Rose-last before = omega arith

pub not-Rose-same : Rose 3 3 → ⊥
not-Rose-same rose = omega (arith, rose)

pub raised-last : raised (2 ^ 64 - 1) ≡ 2 ^ 64 - 1
raised-last = refl

-- a piece of 0 allows any number
pub portion-any : portion 0 4 9 ≡ 4
portion-any = refl

pub portion-piece : portion 3 4 9 ≡ 3
portion-piece = refl

pub portion-there : portion 3 4 2 ≡ 2
portion-there = refl
