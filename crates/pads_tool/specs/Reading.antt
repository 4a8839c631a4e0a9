-- What a command does that reads records: it writes on both sinks what it makes of each record of an input. What source and
-- sinks don't tell, nothing is said of.
use Rattle.std.specs.Prelude.{◌≡◌, ℕ, ◌^◌, ◌<◌, ◌≤◌, Bool, true, false, List, Option, Some, Result, Ok, Err, IfSome, length, take}
use Rattle.std.specs.Io.KnownBytes.{Consumes, IsAtEnd}
use Rattle.pads_drive.specs.LittleAhead.{IsLittleAhead}
use Rattle.pads_drive.specs.Outputs.{Work, output_of, rows_of}
use Rattle.pads_drive.specs.Writing.{Grows, GrowsPrefix}
use Rattle.pads_drive.specs.declared.ended.Ended.{Ended}
use Rattle.pads_drive.specs.declared.ended.Ended.TheVariants as ended
use Rattle.pads_drive.specs.declared.output.Output.{Output}
use Rattle.pads_drive.specs.declared.stop.Stop.{Stop}
use Rattle.pads_drive.specs.declared.stop.Stop.TheVariants as stop
use Rattle.pads_io.specs.Faults.{Rose}
use Rattle.pads_orders.specs.declared.order.Cutting.{Cutting}
use Rattle.pads_module.specs.Modules.{Contents}
use Rattle.pads_value.specs.Cuts.{Cut}
use Rattle.pads_value.specs.declared.row.Row.{Row}
use Rattle.pads_tool.specs.Causes.{SinkFailed}
use Rattle.pads_tool.specs.Describing.{Description, described, complete_frames_of, frames_of}
use Rattle.pads_tool.specs.declared.ending.Ending.{Ending}
use Rattle.pads_tool.specs.declared.ending.Ending.TheVariants as ending

module _ (work : Description → Work Row Bool) where
  -- the rows of the records in these frames, in order
  abbrev pub rows_in : Description → List Cut → List Row
  rows_in d cuts = rows_of (work d) 0 cuts

  -- what is written for them, on `out` and on the notes
  abbrev pub output_for : Description → List Cut → Output
  output_for d cuts = output_of (work d) (rows_in d cuts)

  -- whether all of them are well: clean, or what else the command asks of a record
  abbrev pub all_well : Description → List Cut → Bool
  all_well d cuts = (work d).tally (rows_in d cuts)

  -- What was written on `out`, which held the bytes `o` and now holds `o'`, and on the notes, which held `n` and now hold `n'`,
  -- for an input of which `left'` is left.
  module _ (left' o o' n n' : Option (List ℕ)) where
    -- the output for all records of an input of at most 2^62 bytes, and the source is at its end; the records are all well, or
    -- some one isn't
    abbrev pub WroteAll : Bool → Description → List ℕ → Type 0
    WroteAll well d input = Grows o o' n n' (output_for d (frames_of d input)) × (all_well d (frames_of d input) ≡ well) × (length input ≤ 2 ^ 62) × IsAtEnd left'

    -- the output for the records that the bytes read complete
    abbrev pub WroteComplete : Description → List ℕ → Type 0
    WroteComplete d input = (bytes : List ℕ) × Consumes (Some input) left' bytes × Grows o o' n n' (output_for d (complete_frames_of d bytes))

    -- the output for the records that the first 2^62 of the bytes read complete, of which there are more
    abbrev pub WroteMost : Description → List ℕ → Type 0
    WroteMost d input = (bytes : List ℕ) × Consumes (Some input) left' bytes × (2 ^ 62 < length bytes) × Grows o o' n n' (output_for d (complete_frames_of d (take (2 ^ 62) bytes)))

    -- on each sink a prefix of the output for all records, of which some bytes were read
    abbrev pub WrotePrefix : Description → List ℕ → Type 0
    WrotePrefix d input = (bytes : List ℕ) × Consumes (Some input) left' bytes × GrowsPrefix o o' n n' (output_for d (frames_of d input))

    -- and where no frame is too long or broken, little more was read than was written for on each sink
    abbrev pub ReadLittleAhead : Description → List ℕ → Type 0
    ReadLittleAhead d input = IsLittleAhead (work d) d.cutting.discipline d.cutting.max left' o o' n n' input

    abbrev pub WroteSome : Description → List ℕ → Type 0
    WroteSome d input = WrotePrefix d input × ReadLittleAhead d input

-- how a run ends that came so far in the reading of its input
abbrev pub ending_of : Result (Ended Bool) Stop → Ending
ending_of (Ok (ended.Finished true)) = ending.Done
ending_of (Ok (ended.Finished false)) = ending.Dirty
ending_of (Ok ended.ReadFault) = ending.ReadFault
ending_of (Ok ended.TooLong) = ending.TooLong
ending_of (Err stop.Out) = ending.WriteFault
ending_of (Err stop.Notes) = ending.WriteFault
ending_of (Err stop.Memory) = ending.Memory
-- it doesn't come: all records of any input can be counted
ending_of (Err stop.Limit) = ending.Memory

-- The reading of an input by a description, by the ending, over what the source and the sinks told, and their counts of
-- failures, before and after. A command notes something for records, or doesn't.
module _ (work : Description → Work Row Bool) (noting : Bool) (d : Description) (left left' o o' n n' : Option (List ℕ)) (source source' out out' notes notes' : ℕ) where
  abbrev pub RecordsGive : Ending → Type 0
  RecordsGive ending.Done = IfSome left (WroteAll work left' o o' n n' true d)
  RecordsGive ending.Dirty = IfSome left (WroteAll work left' o o' n n' false d)
  RecordsGive ending.ReadFault = Rose source source' × IfSome left (WroteComplete work left' o o' n n' d)
  RecordsGive ending.WriteFault = SinkFailed noting out out' notes notes' × IfSome left (WroteSome work left' o o' n n' d)
  RecordsGive ending.TooLong = IfSome left (WroteMost work left' o o' n n' d)
  RecordsGive ending.Memory = IfSome left (WroteSome work left' o o' n n' d)
  RecordsGive ending.Usage = ⊥
  RecordsGive (ending.Refused reason) = ⊥
  RecordsGive ending.Limit = ⊥
  RecordsGive ending.FileFault = ⊥

-- There is a module, and by it and an input that is known this was written.
abbrev pub Reads : (Contents → Type 0) → Cutting → Option (List ℕ) → (Description → List ℕ → Type 0) → Type 0
Reads IsMade cutting left Wrote = (made : Contents) × IsMade made × IfSome left (Wrote (described made cutting))
