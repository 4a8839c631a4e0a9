-- Each clean record of an input is printed by bytes that read back as its value, or noted as ambiguous.
use Rattle.std.proofs.Common.{◌≡◌, ◌≤◌, ◌+◌, ◌-◌, inl, inr, refl, ℕ, Bool, true, false, List, [], ◌∷◌, length, length-take, None, Some, arith}
use Rattle.std.specs.Prelude.{All}
use Rattle.std.specs.List.{AllByRecursion}
use Rattle.std.proofs.lemmas.List.Elements.{All-nil, All-cons}
use Rattle.law_calculus.specs.Plain.{Plain}
use Rattle.pads_calc.specs.Rows.{kept_reading, row_by, type_of}
use Rattle.pads_calc.specs.Skeletons.{KeepsAll}
use Rattle.pads_calc.specs.declared.reading.Reading.{Reading}
use Rattle.law_canonical.proofs.CanonicalRecords.{row-has}
use Rattle.pads_drive.specs.Outputs.{Work, rows_of}
use Rattle.pads_frame.proofs.Tiling.{tiles}
use Rattle.pads_frame.specs.Fits.{FitsLimit, HasBlock}
use Rattle.pads_frame.specs.Framed.{framed}
use Rattle.pads_frame.specs.Laws.{IsMarked, Lies, Tiles}
use Rattle.pads_frame.specs.declared.discipline.Discipline.{Discipline}
use Rattle.pads_frame.specs.declared.discipline.Discipline.TheVariants.{Term, Fixed, Rdw, Whole}
use Rattle.pads_print.specs.Printing.{canonical}
use Rattle.pads_print.specs.ReadBack.{reads_back}
use Rattle.pads_value.specs.Cuts.{Cut}
use Rattle.pads_value.specs.Marks.{bytes_of}
use Rattle.pads_value.specs.declared.frame.Mark.{Mark}
use Rattle.pads_value.specs.declared.frame.Mark.TheVariants as mark
use Rattle.pads_value.specs.declared.row.Row.{Row}
use Rattle.pads_tool.specs.Describing.{Description, frames_of, is_clean, row_in}
use Rattle.pads_tool.specs.Printing.{IsKept, IsNoted, IsPrinted, bytes_in, prints, told_of}
use Rattle.pads_tool.specs.Reading.{rows_in}
use Rattle.pads_tool.specs.declared.telling.Told.{Told}
use Rattle.pads_tool.specs.declared.telling.Told.TheVariants as told

-- A frame carries no more bytes than a record may have.
short-at : (d : Discipline) (max : ℕ) (m : Mark) (len : ℕ) → FitsLimit d max → IsMarked d max m len → bytes_of m len ≤ max
short-at (Term terminator) max mark.Plain len fits h = h
short-at (Term terminator) max mark.Long len fits h = omega arith
short-at (Term terminator) max mark.Short len fits h = absurd h
short-at (Term terminator) max mark.Broken len fits h = absurd h
short-at (Fixed block) max mark.Plain len fits h = omega (arith, fits.1, h)
short-at (Fixed block) max mark.Short len fits h = omega (arith, fits.1, h)
short-at (Fixed block) max mark.Long len fits h = absurd h
short-at (Fixed block) max mark.Broken len fits h = absurd h
short-at Rdw max mark.Plain len fits h = h
short-at Rdw max mark.Long len fits h = omega arith
short-at Rdw max mark.Broken len fits h = omega arith
short-at Rdw max mark.Short len fits h = absurd h
short-at Whole max mark.Plain len fits h = h
short-at Whole max mark.Long len fits h = omega arith
short-at Whole max mark.Short len fits h = absurd h
short-at Whole max mark.Broken len fits h = absurd h

abbrev pub IsShort : ℕ → Cut → Type 0
IsShort max cut = length cut.bytes ≤ max

short-lies : (d : Discipline) (max : ℕ) (bytes : List ℕ) (from to : ℕ) (frame : Cut) → FitsLimit d max → Lies d max bytes from frame to → IsShort max frame
short-lies d max bytes from to frame fits h =
    let few = short-at d max frame.mark (frame.end - frame.first) fits h.marked in
    let count : length frame.bytes ≤ bytes_of frame.mark (frame.end - frame.first) = rw (h.carries, length-take) (omega arith) in
    omega (arith, few, count)

pub all-short : (d : Discipline) (max : ℕ) (bytes : List ℕ) (from : ℕ) (frames : List Cut) → FitsLimit d max → Tiles d max bytes from frames → AllByRecursion (IsShort max) frames
all-short d max bytes from [] fits h = tt
all-short d max bytes from (frame ∷ frames) fits h = (short-lies d max bytes from h.0 frame fits h.1, all-short d max bytes h.0 frames fits h.2)

pub has-block : (d : Discipline) (max : ℕ) → FitsLimit d max → HasBlock d
has-block (Term terminator) max fits = tt
has-block (Fixed block) max fits = fits.0
has-block Rdw max fits = tt
has-block Whole max fits = tt

-- What holds of the row of each frame that isn't too long, holds of all rows.
rows-all : (work : Work Row Bool) (P : Row → Type 0) (max : ℕ) → ((number : ℕ) (cut : Cut) → IsShort max cut → P (work.row number cut))
    → (number : ℕ) (cuts : List Cut) → AllByRecursion (IsShort max) cuts → All P (rows_of work number cuts)
unfolding rows_of
rows-all work P max holds number [] all = All-nil P
rows-all work P max holds number (cut ∷ cuts) all =
    All-cons P (work.row number cut) (rows_of work (number + 1) cuts) (holds number cut all.0) (rows-all work P max holds (number + 1) cuts all.1)

-- What is told of a clean row whose value has canonical bytes.
abbrev pub told_where : Description → List ℕ → Bool → Told
told_where d bytes true = told.Printed (bytes_in (framed d.cutting.discipline bytes))
told_where d bytes false = told.Ambiguous

pub told-where : (d : Description) (row : Row) (bytes : List ℕ) (reads : Bool) → is_clean row ≡ true → canonical d.made row.number row.value ≡ Some bytes
    → reads_back d.made d.cutting.discipline d.cutting.max row.number bytes row.value ≡ reads → told_of d row ≡ told_where d bytes reads
told-where d row bytes true clean there reads = rw (clean, there, reads) refl
told-where d row bytes false clean there reads = rw (clean, there, reads) refl

-- The bytes read back, so they can be framed.
framed-there : (d : Description) (row : Row) (bytes : List ℕ) → reads_back d.made d.cutting.discipline d.cutting.max row.number bytes row.value ≡ true
    → framed d.cutting.discipline bytes ≡ Some (bytes_in (framed d.cutting.discipline bytes))
unfolding reads_back
framed-there d row bytes reads =
    elim (framed d.cutting.discipline bytes) as (λ o. framed d.cutting.discipline bytes ≡ o → o ≡ Some (bytes_in o)) [
      | None ↦ λ e. let wrong : false ≡ true = rw e at reads in cc
      | Some input ↦ λ e. refl
    ] refl

-- They are printed, or read otherwise, and that is noted.
when-printed : (d : Description) (row : Row) (bytes : List ℕ) → told_of d row ≡ told_where d bytes true → reads_back d.made d.cutting.discipline d.cutting.max row.number bytes row.value ≡ true → IsPrinted d row bytes
when-printed d row bytes is reads = record { reads = reads; printed = rw is (framed-there d row bytes reads); unnoted = rw is refl }

when-noted : (d : Description) (row : Row) (bytes : List ℕ) → told_of d row ≡ told_where d bytes false → reads_back d.made d.cutting.discipline d.cutting.max row.number bytes row.value ≡ false → IsNoted d row bytes
when-noted d row bytes is otherwise = record { otherwise = otherwise; unprinted = rw is refl; noted = rw is refl }

kept-row : (d : Description) (row : Row) (bytes : List ℕ) → is_clean row ≡ true → canonical d.made row.number row.value ≡ Some bytes → IsKept d row
kept-row d row bytes clean there =
    elim (reads_back d.made d.cutting.discipline d.cutting.max row.number bytes row.value) as (λ b. reads_back d.made d.cutting.discipline d.cutting.max row.number bytes row.value ≡ b → IsKept d row) [
      | true ↦ λ e. record { bytes = bytes; there = there; told = inl (when-printed d row bytes (told-where d row bytes true clean there e) e) }
      | false ↦ λ e. record { bytes = bytes; there = there; told = inr (when-noted d row bytes (told-where d row bytes false clean there e) e) }
    ] refl

number-by : (m : Mark) (number : ℕ) (cut : Cut) (r : Reading) → (row_by m number cut r).number ≡ number
number-by mark.Plain number cut r = refl
number-by mark.Short number cut r = refl
number-by mark.Long number cut r = refl
number-by mark.Broken number cut r = refl

-- a clean record of a plain module that keeps all values
kept-at : (d : Description) → Plain d.made.decls → KeepsAll d.made.decls → d.cutting.max ≤ 16777216 → (number : ℕ) (cut : Cut) → IsShort d.cutting.max cut → is_clean (row_in d.made number cut) ≡ true
    → IsKept d (row_in d.made number cut)
kept-at d plain keeps limit number cut short clean =
    let has = row-has d.made.decls d.made.shape d.made.scan number cut plain keeps (omega (arith, limit, short)) clean in
    let same = number-by cut.mark number cut (kept_reading d.made.decls d.made.scan (type_of d.made.shape number) cut) in
    kept-row d (row_in d.made number cut) has.bytes clean (rw same has.is)

-- all clean records of an input
pub all-kept : (d : Description) → Plain d.made.decls → KeepsAll d.made.decls → d.cutting.max ≤ 16777216 → FitsLimit d.cutting.discipline d.cutting.max → (input : List ℕ)
    → All (λ row. is_clean row ≡ true → IsKept d row) (rows_in prints d (frames_of d input))
all-kept d plain keeps limit fits input =
    rows-all (prints d) (λ row. is_clean row ≡ true → IsKept d row) d.cutting.max (kept-at d plain keeps limit) 0 (frames_of d input)
    (all-short d.cutting.discipline d.cutting.max input 0 (frames_of d input) fits (tiles d.cutting.discipline d.cutting.max input (has-block d.cutting.discipline d.cutting.max fits)))
