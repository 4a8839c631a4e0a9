-- How far the reading of an input has come, from one moment to a later one. At each moment the framer stands in a state,
-- some frames wait to be read, and some were read, whose number is that of the next record.
use Rattle.std.specs.Prelude.{◌≡◌, ℕ, ◌+◌, ◌≤◌, Bool, true, Option, List, ◌++◌, length}
use Rattle.pads_value.specs.Cuts.{Cut}
use Rattle.pads_frame.specs.State.{State, MayCome, reach, rest}
use Rattle.pads_drive.specs.Outputs.{Work, Tallies, output_of, rows_of}
use Rattle.pads_drive.specs.Stopping.{AtLimit}
use Rattle.pads_drive.specs.Writing.{Grows, GrowsPrefix}
use Rattle.pads_drive.specs.declared.stop.Stop.{Stop}

-- a moment: the framer, the frames that wait, the number of the next record, and the tally so far
pub record Moment (Tally : Type 0) : Type 0 where
  pub framer : State
  pub waiting : List Cut
  pub number : ℕ
  pub tally : Tally

module _ {Row Tally : Type 0} (work : Work Row Tally) where
  -- These bytes came, some frames were read, written and counted, and none was lost.
  pub record Progresses (o o' n n' : Option (List ℕ)) (old new : Moment Tally) (bytes : List ℕ) : Type 0 where
    pub frames : List Cut
    pub owed : (ended : Bool) (more : List ℕ) → MayCome new.framer ended more
        → old.waiting ++ rest ended old.framer (bytes ++ more) ≡ frames ++ (new.waiting ++ rest ended new.framer more)
    pub may : (ended : Bool) (more : List ℕ) → MayCome new.framer ended more → MayCome old.framer ended (bytes ++ more)
    pub reaches : reach new.framer ≡ reach old.framer + length bytes
    pub later : old.framer.first + length frames + length new.waiting ≤ new.framer.first + length old.waiting
    pub grown : Grows o o' n n' (output_of work (rows_of work old.number frames))
    pub counted : new.number ≡ old.number + length frames
    pub tallied : (before : List Row) → Tallies work before old.tally → Tallies work (before ++ rows_of work old.number frames) new.tally

  -- These bytes came, and then the reading stopped: a prefix of the output for frames that come first was written. Where a
  -- limit was met, the tally can't count them too.
  pub record Stops (o o' n n' : Option (List ℕ)) (old : Moment Tally) (bytes : List ℕ) (MayFollow : Bool → List ℕ → Type 0) (stop : Stop) : Type 0 where
    pub frames : List Cut
    pub first : (ended : Bool) (more : List ℕ) → MayFollow ended more
        → (others : List Cut) × (old.waiting ++ rest ended old.framer (bytes ++ more) ≡ frames ++ others)
    pub grown : GrowsPrefix o o' n n' (output_of work (rows_of work old.number frames))
    pub over : AtLimit ((before : List Row) → Tallies work before old.tally → work.is_over (before ++ rows_of work old.number frames) ≡ true) stop
