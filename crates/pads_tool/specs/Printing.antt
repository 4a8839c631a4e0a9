-- What the command `print` does with a record: the framed canonical bytes of a clean record that isn't ambiguous stand on
-- `out`, and a line for each other record on the notes.
use Rattle.std.specs.Prelude.{◌≡◌, ℕ, Bool, ◌⊎◌, true, false, if◌then◌else◌, List, [], ◌++◌, Option, Some, None, codes, decimal}
use Rattle.std.specs.List.{list_all}
use Rattle.pads_drive.specs.Outputs.{Work}
use Rattle.pads_frame.specs.Framed.{framed}
use Rattle.pads_print.specs.Printing.{ambiguous, canonical, printed}
use Rattle.pads_print.specs.ReadBack.{reads_back}
use Rattle.pads_value.specs.declared.row.Row.{Row}
use Rattle.pads_tool.specs.Describing.{Description, is_clean, row_in}
use Rattle.pads_tool.specs.Endings.{line}
use Rattle.pads_tool.specs.declared.telling.Told.{Told}
use Rattle.pads_tool.specs.declared.telling.Told.TheVariants as told

abbrev pub bytes_in : Option (List ℕ) → List ℕ
bytes_in None = []
bytes_in (Some bytes) = bytes

-- What is told of a row. It isn't clean; its value is ambiguous; or it is printed, by the framed canonical bytes.
module _ (d : Description) (row : Row) where
  abbrev pub is_ambiguous : Bool
  is_ambiguous = ambiguous d.made d.cutting.discipline d.cutting.max row.number row.value

  abbrev pub bytes_of : List ℕ
  bytes_of = bytes_in (printed d.made d.cutting.discipline d.cutting.max row.number row.value)

  abbrev pub told_of : Told
  told_of = if is_clean row then (if is_ambiguous then told.Ambiguous else told.Printed bytes_of) else told.NotClean

-- the line on the notes for a record that isn't printed: its number, and why
abbrev pub note : ℕ → List ℕ → List ℕ
note number why = line (codes "pads: record " ++ decimal number ++ why)

-- what is written on `out` for it, and what on the notes
abbrev pub bytes_told : Told → List ℕ
bytes_told told.NotClean = []
bytes_told told.Ambiguous = []
bytes_told (told.Printed bytes) = bytes

abbrev pub note_told : ℕ → Told → List ℕ
note_told number told.NotClean = note number (codes " not clean")
note_told number told.Ambiguous = note number (codes " ambiguous")
note_told number (told.Printed bytes) = []

abbrev pub is_printed : Told → Bool
is_printed told.NotClean = false
is_printed told.Ambiguous = false
is_printed (told.Printed bytes) = true

-- What `print` makes of the records of an input. It learns whether all are printed, of however many.
abbrev pub prints : Description → Work Row Bool
prints d = record {
  row = row_in d.made;
  out = λ row. bytes_told (told_of d row);
  notes = λ row. note_told row.number (told_of d row);
  tally = list_all (λ row. is_printed (told_of d row));
  is_over = λ rows. false;
}

-- The canonical bytes of a row's value, framed, are written on `out`. They are one frame of just these bytes, which reads back
-- clean as the value.
pub record IsPrinted (d : Description) (row : Row) (bytes : List ℕ) : Type 0 where
  pub reads : reads_back d.made d.cutting.discipline d.cutting.max row.number bytes row.value ≡ true
  pub printed : framed d.cutting.discipline bytes ≡ Some ((prints d).out row)
  pub unnoted : (prints d).notes row ≡ []

-- They read otherwise, and the record's line is written on the notes.
pub record IsNoted (d : Description) (row : Row) (bytes : List ℕ) : Type 0 where
  pub otherwise : reads_back d.made d.cutting.discipline d.cutting.max row.number bytes row.value ≡ false
  pub unprinted : (prints d).out row ≡ []
  pub noted : (prints d).notes row ≡ note row.number (codes " ambiguous")

-- A clean record has canonical bytes, and is printed by them or noted, just as they read.
pub record IsKept (d : Description) (row : Row) : Type 0 where
  pub bytes : List ℕ
  pub there : canonical d.made row.number row.value ≡ Some bytes
  pub told : IsPrinted d row bytes ⊎ IsNoted d row bytes
