-- What was written when the reading stopped: all but what is due for few of the bytes read.
use Rattle.std.specs.Prelude.{◌≡◌, ℕ, ◌+◌, ◌≤◌, true, Option, Some, List, length, take}
use Rattle.std.specs.Io.KnownBytes.{Consumes}
use Rattle.pads_drive.specs.Ahead.{all_have_bytes, most_ahead}
use Rattle.pads_frame.specs.Cutting.{closed, records}
use Rattle.pads_frame.specs.declared.discipline.Discipline.{Discipline}
use Rattle.pads_drive.specs.Outputs.{Work, output_of, rows_of}
use Rattle.pads_drive.specs.Writing.{GrowsPast}

module _ {Row Tally : Type 0} (work : Work Row Tally) (discipline : Discipline) (max : ℕ) (left' o o' n n' : Option (List ℕ)) where
  -- On each sink the output for all frames that a front of the bytes taken completes was written, and that front lacks few of
  -- the bytes.
  pub record WroteNear (input : List ℕ) : Type 0 where
    pub taken : List ℕ
    pub consumed : Consumes (Some input) left' taken
    pub served : ℕ
    pub near : length taken ≤ served + most_ahead max
    pub wrote : GrowsPast o o' n n' (output_of work (rows_of work 0 (closed discipline max (take served taken))))

  -- So it is where no frame of the input is too long or broken.
  abbrev pub IsLittleAhead : List ℕ → Type 0
  IsLittleAhead input = all_have_bytes (records discipline max input) ≡ true → WroteNear input
