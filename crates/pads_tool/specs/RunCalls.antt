-- The calls of a whole run.
use Rattle.std.specs.Prelude.{ℕ, Bool, Option}
use Rattle.pads_io.specs.Calls.{Calls, Writes}

-- Calls of a command, and behind them writes of the last words on the notes, none of them behind one that failed.
abbrev pub RunCalls : {S K E : Type 0} → (S → Option ℕ → S → Type 0) → (K → Option ℕ → K → Type 0) → (E → Option ℕ → E → Type 0)
    → S → K → E → S → K → E → Type 0
RunCalls {S} {K} {E} reads writes writes_notes source out notes source' out' notes' =
    (noted : E) × Calls reads writes writes_notes source out notes source' out' noted × (well : Bool) × Writes writes_notes noted notes' well
