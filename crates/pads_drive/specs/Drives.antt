-- What is written and counted for an input as a whole.
use Rattle.std.specs.Prelude.{◌≡◌, ℕ, ◌^◌, ◌<◌, ◌≤◌, true, false, Option, Some, Result, Ok, Err, List, length, take}
use Rattle.std.specs.Io.KnownBytes.{Consumes, IsAtEnd}
use Rattle.pads_frame.specs.Cutting.{records, closed}
use Rattle.pads_frame.specs.declared.discipline.Discipline.{Discipline}
use Rattle.pads_drive.specs.declared.ended.Ended.{Ended}
use Rattle.pads_drive.specs.declared.ended.Ended.TheVariants as ended
use Rattle.pads_drive.specs.declared.stop.Stop.{Stop}
use Rattle.pads_drive.specs.Outputs.{Work, Tallies, output_of, rows_of}
use Rattle.pads_drive.specs.Stopping.{AtLimit}
use Rattle.pads_drive.specs.Writing.{Grows, GrowsPrefix}

module _ {Row Tally : Type 0} (work : Work Row Tally) (discipline : Discipline) (max : ℕ) where
  -- the rows of all records of an input, and of those that its bytes complete where it may go on
  abbrev pub all_rows : List ℕ → List Row
  all_rows input = rows_of work 0 (records discipline max input)

  abbrev pub complete_rows : List ℕ → List Row
  complete_rows bytes = rows_of work 0 (closed discipline max bytes)

  abbrev pub DriveGives : (input : List ℕ) (left' o o' n n' : Option (List ℕ)) → Result (Ended Tally) Stop → Type 0
  -- the output for all records of an input of at most 2^62 bytes, with their tally, and the source is at its end
  DriveGives input left' o o' n n' (Ok (ended.Finished tally)) =
      Grows o o' n n' (output_of work (all_rows input)) × Tallies work (all_rows input) tally × (length input ≤ 2 ^ 62) × IsAtEnd left'
  -- the output for the records that the bytes read complete, which the tally can count
  DriveGives input left' o o' n n' (Ok ended.ReadFault) =
      (bytes : List ℕ) × Consumes (Some input) left' bytes × Grows o o' n n' (output_of work (complete_rows bytes))
      × (work.is_over (complete_rows bytes) ≡ false)
  -- the same, over the first 2^62 of the bytes read, of which there are more
  DriveGives input left' o o' n n' (Ok ended.TooLong) =
      (bytes : List ℕ) × Consumes (Some input) left' bytes × (2 ^ 62 < length bytes)
      × Grows o o' n n' (output_of work (complete_rows (take (2 ^ 62) bytes))) × (work.is_over (complete_rows (take (2 ^ 62) bytes)) ≡ false)
  -- some bytes were read, and a prefix of the output for all records was written; where a limit was met, the tally can't
  -- count all records
  DriveGives input left' o o' n n' (Err stop) =
      (bytes : List ℕ) × Consumes (Some input) left' bytes × GrowsPrefix o o' n n' (output_of work (all_rows input))
      × AtLimit (work.is_over (all_rows input) ≡ true) stop
