-- What a reading is that a test has let through.
use Rattle.std.proofs.Common.{◌≡◌, refl, ℕ, ℤ, Bool, true, false, cond}
use Rattle.pads_value.specs.declared.cause.Cause.TheVariants as cause
use Rattle.pads_value.specs.declared.reading.Read.{Read}
use Rattle.pads_value.specs.declared.reading.Read.TheVariants.{Good, Soft}

pub good_in_range : (b : Bool) (size : ℕ) (w : ℤ) (n : ℕ) (v : ℤ) → cond b (Good size w) (Soft size cause.Range) ≡ Good n v → (b ≡ true) × (n ≡ size) × (v ≡ w)
good_in_range true size w n v e = (refl, cc, cc)
good_in_range false size w n v e = cc
