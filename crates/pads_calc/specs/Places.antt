-- Where a reading ends: not before the place where it begins, and within the record.
use Rattle.std.specs.Prelude.{ℕ, ◌≡◌, ◌<◌, ◌≤◌, Bool, false, List, length, ⊤}
use Rattle.pads_calc.specs.declared.reading.Reading.{Reading}
use Rattle.pads_calc.specs.declared.turn.Turn.{Turn}
use Rattle.pads_calc.specs.declared.turn.Turn.TheVariants as turn

abbrev pub EndsWithin : List ℕ → ℕ → Reading → Type 0
EndsWithin bytes i r = (i ≤ r.place) × (r.place ≤ length bytes)

-- a turn that is kept ends within the record, and takes a byte from the second on
abbrev pub TurnsWithin : List ℕ → Bool → ℕ → Turn → Type 0
TurnsWithin bytes is_first j (turn.Undone cause) = ⊤
TurnsWithin bytes is_first j (turn.Kept r) = EndsWithin bytes j r × (is_first ≡ false → j < r.place)
