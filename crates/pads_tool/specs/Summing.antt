-- What the command `summary` does: it reads records, sums up what each part of the record types gave in all of them, and
-- reports that once the input has ended. Nothing is written before.
use Rattle.std.specs.Prelude.{◌≡◌, ℕ, ◌^◌, ◌<◌, ◌≤◌, Bool, true, false, List, [], Option, Some, Result, Ok, Err, IfSome, length, take}
use Rattle.std.specs.Io.KnownBytes.{Appends, Consumes, IsAtEnd}
use Rattle.std.specs.List.{list_all}
use Rattle.pads_accum.specs.Limits.{passes}
use Rattle.pads_accum.specs.Summaries.{all_of, summary_of}
use Rattle.pads_module.specs.Modules.{Contents}
use Rattle.pads_code.specs.declared.Coding.{Coding}
use Rattle.pads_drive.specs.Outputs.{Work, rows_of}
use Rattle.pads_io.specs.Faults.{Rose}
use Rattle.pads_io.specs.Transfer.{AppendsPrefix}
use Rattle.pads_mask.specs.Masks.{masked}
use Rattle.pads_erase.specs.declared.mask.Mask.{Mask}
use Rattle.pads_orders.specs.declared.order.Settings.{Settings}
use Rattle.pads_plan.specs.Plans.{lists_of, most, size}
use Rattle.pads_report.specs.Reports.{report_text}
use Rattle.pads_sums.specs.declared.part_sum.SumList.{SumList}
use Rattle.pads_value.specs.Cuts.{Cut}
use Rattle.pads_value.specs.declared.row.Row.{Row}
use Rattle.pads_tool.specs.Describing.{Description, complete_frames_of, described, frames_of, is_clean, row_in}
use Rattle.pads_tool.specs.Masking.{CanBeMasked, bounded, IsBounded, IsReadUnder, IsUnmaskedIn, IsUnreadUnder}
use Rattle.pads_tool.specs.Texts.{IsRefusedIn}
use Rattle.pads_tool.specs.declared.ending.Ending.{Ending}
use Rattle.pads_tool.specs.declared.ending.Ending.TheVariants as ending
use Rattle.pads_tool.specs.declared.reason.Reason.{Reason}
use Rattle.pads_tool.specs.declared.reason.Reason.TheVariants as reason
use Rattle.pads_tool.specs.declared.summed.Summed.{Summed}
use Rattle.pads_tool.specs.declared.summed.PieceSummed.{PieceSummed}

module _ (m : Contents) where
  -- the sums of rows, by the parts of the module's record types
  abbrev pub sums_of : List Row → List SumList
  sums_of rows = summary_of (lists_of m) rows

  -- A count of them is above 2^62.
  abbrev pub are_too_many : List Row → Bool
  are_too_many rows = passes (sums_of rows)

  -- What `summary` makes of the records of an input: nothing is written for any. It learns their sums, and whether all are
  -- clean.
  abbrev pub sums : Work Row Summed
  sums = record {
    row = row_in m;
    out = λ row. [];
    notes = λ row. [];
    tally = λ rows. record { summary = record { plan = lists_of m; lists = sums_of rows; spent = false }; clean = list_all is_clean rows };
    is_over = are_too_many;
  }

  -- what a worker learns of the rows of its piece
  abbrev pub piece_summed : List Row → PieceSummed
  piece_summed rows = record { chunk = record { plan = lists_of m; lists = all_of (lists_of m) rows; spent = false }; clean = list_all is_clean rows }

module _ (d : Description) where
  abbrev pub rows_summed : List Cut → List Row
  rows_summed cuts = rows_of (sums d.made) 0 cuts

  -- the rows of all records of an input, and of those that its first bytes complete
  abbrev pub all_rows : List ℕ → List Row
  all_rows input = rows_summed (frames_of d input)

  abbrev pub complete_rows : List ℕ → List Row
  complete_rows bytes = rows_summed (complete_frames_of d bytes)

  -- the report of an input, with at most so many values of each part
  abbrev pub report_for : ℕ → List ℕ → List ℕ
  report_for top input = report_text top (sums_of d.made (all_rows input))

-- What was read and written, for an input of which `left'` is left.
module _ (left' : Option (List ℕ)) where
  -- all records of an input of at most 2^62 bytes were read, and could be counted
  abbrev pub WasSummed : Description → List ℕ → Type 0
  WasSummed d input = (are_too_many d.made (all_rows d input) ≡ false) × (length input ≤ 2 ^ 62) × IsAtEnd left'

  -- The source failed; the records that the bytes read complete could be counted.
  abbrev pub SumsComplete : Description → List ℕ → Type 0
  SumsComplete d input = (bytes : List ℕ) × Consumes (Some input) left' bytes × (are_too_many d.made (complete_rows d bytes) ≡ false)

  -- More than 2^62 bytes were read; the records that the first 2^62 complete could be counted.
  abbrev pub SumsMost : Description → List ℕ → Type 0
  SumsMost d input = (bytes : List ℕ) × Consumes (Some input) left' bytes × (2 ^ 62 < length bytes)
      × (are_too_many d.made (complete_rows d (take (2 ^ 62) bytes)) ≡ false)

  -- The records can't be counted.
  abbrev pub SumsOver : Description → List ℕ → Type 0
  SumsOver d input = (bytes : List ℕ) × Consumes (Some input) left' bytes × (are_too_many d.made (all_rows d input) ≡ true)

  module _ (out out' : Option (List ℕ)) (top : ℕ) where
    -- The report of all records was written; they are all clean, or some one isn't.
    abbrev pub SumsAll : Bool → Description → List ℕ → Type 0
    SumsAll well d input = Appends out out' (report_for d top input) × (list_all is_clean (all_rows d input) ≡ well) × WasSummed d input

    -- A prefix of it was written.
    abbrev pub SumsSome : Description → List ℕ → Type 0
    SumsSome d input = AppendsPrefix out out' (report_for d top input) × WasSummed d input

  -- how far the reading comes: to its end, with what was summed up, or else to an ending
  abbrev pub SumsGive : (left : Option (List ℕ)) (source source' : ℕ) → Description → Result Summed Ending → Type 0
  SumsGive left source source' d (Ok summed) = IfSome left (λ input. (summed ≡ (sums d.made).tally (all_rows d input)) × WasSummed d input)
  SumsGive left source source' d (Err ending.ReadFault) = Rose source source' × IfSome left (SumsComplete d)
  SumsGive left source source' d (Err ending.TooLong) = IfSome left (SumsMost d)
  SumsGive left source source' d (Err ending.Limit) = IfSome left (SumsOver d)
  SumsGive left source source' d (Err ending.Memory) = Unit {0}
  SumsGive left source source' d (Err ending.Done) = ⊥
  SumsGive left source source' d (Err ending.Dirty) = ⊥
  SumsGive left source source' d (Err ending.Usage) = ⊥
  SumsGive left source source' d (Err (ending.Refused why)) = ⊥
  SumsGive left source source' d (Err ending.FileFault) = ⊥
  SumsGive left source source' d (Err ending.WriteFault) = ⊥

-- The module that records are summed up by: it has an image, and at most so many parts as a summary counts for,
abbrev pub IsSummedUnder : Option (List ℕ) → Coding → Mask → Contents → Type 0
IsSummedUnder content coding mask made = IsReadUnder content coding mask made × (size (lists_of made) ≤ most)

-- with the order's bound on searches.
abbrev pub IsSummedBy : Option (List ℕ) → Settings → Mask → Contents → Type 0
IsSummedBy content settings mask made = IsBounded settings.scan (λ whole. IsSummedUnder content settings.coding mask whole) made

-- The module has an image, and more parts than a summary counts for.
abbrev pub IsTooLargeIn : Option (List ℕ) → Coding → Mask → Type 0
IsTooLargeIn content coding mask = (made : Contents) × IsReadUnder content coding mask made × (most < size (lists_of made))

-- A summary is refused for this reason: there is no module, or else it has no image, or else it has too many parts.
abbrev pub IsUnsummedFor : Option (List ℕ) → Coding → Mask → Reason → Type 0
IsUnsummedFor content coding mask (reason.Description verdict) = IsRefusedIn content verdict
IsUnsummedFor content coding mask (reason.MaskItem item) = IsUnmaskedIn content coding mask item
IsUnsummedFor content coding mask (reason.Question fault) = ⊥
IsUnsummedFor content coding mask reason.ImageTooLarge = IsUnreadUnder content coding mask
IsUnsummedFor content coding mask reason.SummaryTooLarge = IsTooLargeIn content coding mask

-- There is a module, which hasn't too many parts, and the records of an input of at most 2^62 bytes can be counted.
pub record CanBeSummed (content left : Option (List ℕ)) (settings : Settings) (mask : Mask) : Type 0 where
  pub can_make : CanBeMasked content settings.coding mask
  pub input : List ℕ
  pub few : size (lists_of (masked can_make.whole mask)) ≤ most
  pub left_is : left ≡ Some input
  pub fits : length input ≤ 2 ^ 62
  pub counted : are_too_many (bounded settings.scan (masked can_make.whole mask))
      (all_rows (described (bounded settings.scan (masked can_make.whole mask)) settings.cutting) input) ≡ false

-- The run ends so before a summary is there: it would have too many parts, or there is no memory.
abbrev pub HasNoSummary : Contents → Ending → Type 0
HasNoSummary m (ending.Refused (reason.Description verdict)) = ⊥
HasNoSummary m (ending.Refused (reason.MaskItem item)) = ⊥
HasNoSummary m (ending.Refused (reason.Question fault)) = ⊥
HasNoSummary m (ending.Refused reason.ImageTooLarge) = ⊥
HasNoSummary m (ending.Refused reason.SummaryTooLarge) = most < size (lists_of m)
HasNoSummary m ending.Memory = Unit {0}
HasNoSummary m ending.Done = ⊥
HasNoSummary m ending.Dirty = ⊥
HasNoSummary m ending.Usage = ⊥
HasNoSummary m ending.FileFault = ⊥
HasNoSummary m ending.ReadFault = ⊥
HasNoSummary m ending.WriteFault = ⊥
HasNoSummary m ending.TooLong = ⊥
HasNoSummary m ending.Limit = ⊥
