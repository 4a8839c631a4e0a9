-- When a call may answer its fault.
use Rattle.std.specs.Prelude.{◌≡◌, ℕ, ◌≤◌, ◌⊎◌, Bool, true, Result, Err}
use Rattle.pads_io.specs.Faults.{Rose}
use Rattle.pads_value.specs.declared.memory.Refusal.{Refusal}
use Rattle.pads_value.specs.declared.memory.Refusal.TheVariants as refusal

-- the count of failures didn't fall, and the fault of a call that also takes memory comes only where it rose
pub record FaultHasCause {T F : Type 0} (before now : ℕ) (result : Result T (Refusal F)) : Type 0 where
  pub later : before ≤ now
  pub failed : (fault : F) → result ≡ Err (refusal.Fault fault) → Rose before now

-- A sink failed, by the counts of `out` and of the notes before and after: `out`, or the notes where the command writes on
-- them.
abbrev pub SinkFailed : Bool → ℕ → ℕ → ℕ → ℕ → Type 0
SinkFailed writes_notes out out' notes notes' = Rose out out' ⊎ ((writes_notes ≡ true) × Rose notes notes')
