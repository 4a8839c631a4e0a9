-- What a command makes of the frames of an input: the row of each record, what is written for each row, and the tally of all
-- rows. It is said of whole lists of rows, so that it doesn't matter in which parts they are made and counted.
use Rattle.std.specs.Prelude.{◌≡◌, ℕ, ◌+◌, Bool, false, List, [], ◌∷◌, ◌++◌}
use Rattle.std.specs.List.{flat_map}
use Rattle.pads_value.specs.Cuts.{Cut}
use Rattle.pads_drive.specs.declared.output.Output.{Output}

-- output with later output behind it
abbrev pub joined : Output → Output → Output
joined output later = record { out = output.out ++ later.out; notes = output.notes ++ later.notes }

-- A command as plain data.
pub record Work (Row Tally : Type 0) : Type 0 where
  -- the row of the record of a number in a frame
  pub row : ℕ → Cut → Row
  -- the bytes for a row on `out`, and on the notes
  pub out : Row → List ℕ
  pub notes : Row → List ℕ
  -- the tally of rows in their order, and whether they are more than it can count
  pub tally : List Row → Tally
  pub is_over : List Row → Bool

module _ {Row Tally : Type 0} (work : Work Row Tally) where
  -- the rows of frames that follow each other, the first of which has this number
  unfoldable pub rows_of : ℕ → List Cut → List Row
  rows_of number [] = []
  rows_of number (cut ∷ cuts) = work.row number cut ∷ rows_of (number + 1) cuts

  -- what is written for rows that follow each other
  abbrev pub output_of : List Row → Output
  output_of rows = record { out = flat_map work.out rows; notes = flat_map work.notes rows }

  -- output with that of one more row behind it
  abbrev pub added : Row → Output → Output
  added row output = record { out = output.out ++ work.out row; notes = output.notes ++ work.notes row }

  -- This is the tally of these rows, and it can count them.
  pub record Tallies (rows : List Row) (tally : Tally) : Type 0 where
    pub is : tally ≡ work.tally rows
    pub within : work.is_over rows ≡ false
