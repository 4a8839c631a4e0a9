-- What a description says of an input: the frames in which its records lie, the row and the line of each record, and
-- whether the record is clean.
use Rattle.std.specs.Prelude.{ℕ, Bool, false, List, []}
use Rattle.std.specs.List.{list_all}
use Rattle.pads_value.specs.Cuts.{Cut}
use Rattle.pads_value.specs.Header.{is_ok_class}
use Rattle.pads_value.specs.declared.descriptor.Pd.{out-Pd}
use Rattle.pads_value.specs.declared.row.Row.{Row}
use Rattle.pads_calc.specs.Rows.{row_of}
use Rattle.pads_drive.specs.Outputs.{Work}
use Rattle.pads_frame.specs.Cutting.{records, closed}
use Rattle.pads_json.specs.Lines.{line_told}
use Rattle.pads_orders.specs.declared.order.Cutting.{Cutting}
use Rattle.pads_module.specs.Modules.{Contents}

-- A description's module, and how the records lie in the input.
pub record Description : Type 0 where
  pub made : Contents
  pub cutting : Cutting

abbrev pub described : Contents → Cutting → Description
described made cutting = record { made = made; cutting = cutting }

-- the row of the record of this number in this frame
abbrev pub row_in : Contents → ℕ → Cut → Row
row_in m number cut = row_of m.decls m.shape m.scan number cut

-- the line that tells a row
abbrev pub line_of : Contents → Row → List ℕ
line_of m row = line_told m.decls m.names m.shape row

-- nothing is wrong with the record
abbrev pub is_clean : Row → Bool
is_clean row = is_ok_class (out-Pd row.pd).class

-- What `parse` makes of the records of an input: a line for each row, and nothing on the notes; and it learns whether all
-- are clean, of however many.
abbrev pub lines : Contents → Work Row Bool
lines m = record { row = row_in m; out = line_of m; notes = λ row. []; tally = list_all is_clean; is_over = λ rows. false }

-- the frames of an input, and those that its first bytes complete
abbrev pub frames_of : Description → List ℕ → List Cut
frames_of d input = records d.cutting.discipline d.cutting.max input

abbrev pub complete_frames_of : Description → List ℕ → List Cut
complete_frames_of d bytes = closed d.cutting.discipline d.cutting.max bytes
