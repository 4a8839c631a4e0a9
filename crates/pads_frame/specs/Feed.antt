-- What a framer takes of a piece of the input.
use Rattle.std.specs.Prelude.{◌≡◌, ℕ, ◌+◌, ◌-◌, ◌^◌, ◌<◌, ◌↔◌, min, Bool, List, ◌++◌, length, take, IsTrue, Result, Ok, Err}
use Rattle.pads_frame.specs.declared.cutter.Fed.{Fed}
use Rattle.pads_frame.specs.declared.cutter.TooLong.{TooLong}
use Rattle.pads_frame.specs.State.{State, reach, rest, room}

-- Of a piece those bytes are taken for which there is room, and that have offsets below 2^62.
abbrev pub taken : State → List ℕ → ℕ
taken s piece = min (length piece) (min (room s - length s.held) (2 ^ 62 - reach s))

-- the state once these bytes are held too
abbrev pub holding : State → List ℕ → State
holding s bytes = record s { held = s.held ++ bytes }

-- The bytes taken are held, and what was owed for them and what comes then is owed for what comes.
pub record Feeds (old : State) (piece : List ℕ) (new : State) (fed : Fed) : Type 0 where
  pub took : fed.took ≡ taken old piece
  pub full : IsTrue fed.full ↔ (length new.held ≡ room new)
  pub state : new ≡ holding old (take fed.took piece)
  pub reach : reach new ≡ reach old + fed.took
  pub owed : (ended : Bool) (more : List ℕ) → rest ended new more ≡ rest ended old (take fed.took piece ++ more)

-- A byte comes whose offset would be 2^62.
abbrev pub IsPastEnd : State → List ℕ → Type 0
IsPastEnd s piece = (0 < length piece) × (reach s ≡ 2 ^ 62)

-- Then nothing is taken.
abbrev pub FeedGives : State → List ℕ → State → Result Fed TooLong → Type 0
FeedGives old piece new (Ok fed) = Feeds old piece new fed
FeedGives old piece new (Err e) = new ≡ old
