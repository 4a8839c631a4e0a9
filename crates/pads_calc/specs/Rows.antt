-- The row of a record: its type by number, read at the record's first byte by a call at depth 128; one
-- node over the record, with the body's node below it and, where bytes are left, a node of class Err
-- over the rest; the cause of the frame's mark. A frame without its bytes isn't read. The values of
-- declarations that keep none of their own are erased once the type is read.
use Rattle.std.specs.Prelude.{ℕ, zero, suc, ◌+◌, nat_lt, true, false, List, [], ◌∷◌, length, Option, Some, None, if◌then◌else◌}
use Rattle.pads_erase.specs.Erasing.{erased}
use Rattle.pads_erase.specs.declared.skeleton.Keeping.{Keeping}
use Rattle.pads_value.specs.Cuts.{Cut}
use Rattle.pads_value.specs.Header.{head}
use Rattle.pads_value.specs.declared.cause.Cause.{Cause}
use Rattle.pads_value.specs.declared.cause.Cause.TheVariants as cause
use Rattle.pads_value.specs.declared.descriptor.Own.{Own}
use Rattle.pads_value.specs.declared.descriptor.Pd.{Pd}
use Rattle.pads_value.specs.declared.frame.Mark.{Mark}
use Rattle.pads_value.specs.declared.frame.Mark.TheVariants as mark
use Rattle.pads_value.specs.declared.row.Row.{Row}
use Rattle.pads_value.specs.declared.value.Val.TheVariants as val
use Rattle.pads_calc.specs.declared.decl.Decl.{Decl}
use Rattle.pads_calc.specs.declared.decl.Shape.{Shape}
use Rattle.pads_calc.specs.declared.reading.Reading.{Reading}
use Rattle.pads_calc.specs.Calculus.{caller}
use Rattle.pads_calc.specs.Readings.{Subject, faulty}
use Rattle.pads_calc.specs.Skeletons.{keepings_of}

-- how deep calls of declarations may be nested
abbrev pub deepest : ℕ
deepest = 128

-- as many bytes as a search may pass over at most
abbrev pub farthest : ℕ
farthest = 16_777_216

abbrev pub head_or : Option ℕ → ℕ → ℕ
head_or None each = each
head_or (Some head) each = head

-- the first record has the header type, where the source has one
abbrev pub type_of : Shape → ℕ → ℕ
type_of shape zero = head_or shape.head shape.each
type_of shape (suc number) = shape.each

-- what is read of a record, where a search passes over so many bytes at most
abbrev pub subject_of_cut : ℕ → Cut → Subject
subject_of_cut scan cut = record { origin = cut.first; bytes = cut.bytes; scan = scan }

abbrev pub body_reading : List Decl → ℕ → ℕ → Cut → Reading
body_reading decls scan number cut = caller (subject_of_cut scan cut) decls deepest number [] [] 0

-- what is left of a reading of a declaration. Its descriptor and its place stay
abbrev pub kept_by : List Keeping → ℕ → Reading → Reading
kept_by keepings number r = record r { value = erased keepings deepest number r.value }

abbrev pub kept_reading : List Decl → ℕ → ℕ → Cut → Reading
kept_reading decls scan number cut = kept_by (keepings_of decls) number (body_reading decls scan number cut)

-- the bytes behind the body
abbrev pub extra : Cut → ℕ → List Pd
extra cut place =
    if nat_lt place (length cut.bytes) then (faulty cut.first cause.ExtraBeforeEor place (length cut.bytes)).pd ∷ [] else []

abbrev pub read_row : ℕ → Cut → Option Own → Reading → Row
read_row number cut own r = record {
  number = number;
  value = r.value;
  pd = head own (record { begin = cut.first; end = cut.end }) (r.pd ∷ extra cut r.place);
  next = cut.first + r.place;
}

abbrev pub unread_row : ℕ → Cut → Cause → Row
unread_row number cut cause = record {
  number = number;
  value = val.Missing;
  pd = head (Some (record { cause = cause; fails = true })) (record { begin = cut.first; end = cut.end }) [];
  next = cut.first;
}

abbrev pub row_by : Mark → ℕ → Cut → Reading → Row
row_by mark.Plain number cut r = read_row number cut None r
row_by mark.Short number cut r = read_row number cut (Some (record { cause = cause.RecordShort; fails = false })) r
row_by mark.Long number cut r = unread_row number cut cause.RecordLong
row_by mark.Broken number cut r = unread_row number cut cause.RecordBroken

-- the row of the record of this number, where a search passes over so many bytes at most
abbrev pub row_of : List Decl → Shape → ℕ → ℕ → Cut → Row
row_of decls shape scan number cut = row_by cut.mark number cut (kept_reading decls scan (type_of shape number) cut)
