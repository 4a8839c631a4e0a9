-- What a framer that is asked for the next frame answers, and what it owes then.
use Rattle.std.specs.Prelude.{◌≡◌, ℕ, ◌+◌, ◌<◌, ◌≤◌, ◌⊎◌, Bool, true, false, List, [], ◌∷◌, ◌++◌, length}
use Rattle.pads_frame.specs.declared.discipline.Discipline.{Discipline}
use Rattle.pads_value.specs.declared.frame.Mark.TheVariants.{Long, Broken}
use Rattle.pads_value.specs.Cuts.{Cut}
use Rattle.pads_frame.specs.Extents.{extent}
use Rattle.pads_frame.specs.State.{State, MayCome, closes, reach, rest, room, text_of}

-- No call changes the discipline and the limit; and these two don't change whether the input has ended.
pub record SameInput (old new : State) : Type 0 where
  pub discipline : new.discipline ≡ old.discipline
  pub max : new.max ≡ old.max
  pub ended : new.ended ≡ old.ended

-- The frame that these bytes begin is long or broken already: whatever comes behind them, it carries none of them.
abbrev pub CarriesNone : Discipline → ℕ → List ℕ → Type 0
CarriesNone discipline max bytes =
    (more : List ℕ) → let mark = (extent discipline max (bytes ++ more)).mark in (mark ≡ Long) ⊎ (mark ≡ Broken)

-- how many bytes of a terminator closed the first frame
abbrev pub terminator_of : State → ℕ
terminator_of s = (extent s.discipline s.max (text_of s)).terminator

-- The first frame that was owed is handed out, and the others are still owed. Of the next frame nothing is passed over, and
-- no more is held than there is room for.
pub record HandsOut (old : State) (cut : Cut) (new : State) : Type 0 where
  pub closes : closes old ≡ true
  pub owed : (ended : Bool) (more : List ℕ) → MayCome old ended more → rest ended old more ≡ cut ∷ rest ended new more
  pub first : new.first ≡ cut.end + terminator_of old
  pub later : old.first < new.first
  pub passed : new.passed ≡ 0
  pub held : length new.held ≤ room new
  pub reach : reach new ≡ reach old
  pub input : SameInput old new

-- No frame closes yet, and none is owed for the bytes that came: all that are owed wait for what comes,
-- and there is room for more bytes. Where bytes were passed over, their frame carries none.
pub record Waits (old new : State) : Type 0 where
  pub none : closes old ≡ false
  pub owed : (ended : Bool) (more : List ℕ) → rest ended new more ≡ rest ended old more
  pub done : rest new.ended new [] ≡ []
  pub first : new.first ≡ old.first
  pub lost : 0 < new.passed → CarriesNone new.discipline new.max (text_of new)
  pub free : length new.held + 4096 ≤ room new
  pub reach : reach new ≡ reach old
  pub input : SameInput old new
