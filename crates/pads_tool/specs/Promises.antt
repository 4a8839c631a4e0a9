-- What each command promises: one record a command, with what holds at each answer.
use Rattle.std.specs.Prelude.{All, ◌≡◌, ℕ, ◌^◌, ◌≤◌, ◌⊎◌, Bool, true, false, List, Option, Some, length}
use Rattle.std.specs.Io.KnownBytes.{Appends}
use Rattle.pads_io.specs.Faults.{Rose}
use Rattle.pads_io.specs.Transfer.{AppendsPrefix}
use Rattle.pads_erase.specs.declared.mask.Mask.{Mask}
use Rattle.pads_orders.specs.declared.order.Cutting.{Cutting}
use Rattle.pads_orders.specs.declared.order.Order.{Order}
use Rattle.pads_orders.specs.declared.order.Order.TheVariants as order
use Rattle.pads_orders.specs.declared.order.Question.{Question}
use Rattle.pads_orders.specs.declared.order.Settings.{Settings}
use Rattle.pads_question.specs.declared.asked.Asked.{Asked}
use Rattle.pads_drive.specs.Outputs.{Work}
use Rattle.pads_selftest.specs.Description.{description}
use Rattle.pads_value.specs.declared.row.Row.{Row}
use Rattle.pads_tool.specs.Causes.{SinkFailed}
use Rattle.pads_tool.specs.Checking.{Accepts}
use Rattle.pads_tool.specs.Describing.{Description, frames_of, is_clean, lines}
use Rattle.pads_tool.specs.Images.{CanBeRead, IsUnreadFor}
use Rattle.pads_tool.specs.Printing.{IsKept, prints}
use Rattle.pads_tool.specs.Querying.{CanBeAsked, IsUnaskedFor, answers, asking}
use Rattle.pads_tool.specs.Reading.{ReadLittleAhead, Reads, WroteAll, WroteComplete, WroteMost, WrotePrefix, WroteSome, rows_in}
use Rattle.pads_tool.specs.Testing.{TestsBy, all_clean, selftest_line}
use Rattle.pads_tool.specs.Summing.{CanBeSummed, IsSummedBy, IsUnsummedFor, SumsAll, SumsComplete, SumsMost, SumsOver, SumsSome}
use Rattle.pads_tool.specs.Masking.{IsBounded, Preparation, describing, masking}
use Rattle.pads_tool.specs.Texts.{IsDescribedIn}
use Rattle.pads_tool.specs.declared.reason.Reason.{Reason}
use Rattle.pads_tool.specs.declared.ending.Ending.{Ending}
use Rattle.pads_tool.specs.declared.ending.Ending.TheVariants as ending

-- What the objects of a run tell: the content of the files, what the source has left, and what stands on `out` and on the
-- notes, before a command and behind it. The last words come after that.
pub record Seen : Type 0 where
  pub content : List ℕ → Option (List ℕ)
  pub left : Option (List ℕ)
  pub left' : Option (List ℕ)
  pub out : Option (List ℕ)
  pub out' : Option (List ℕ)
  pub notes : Option (List ℕ)
  pub notes' : Option (List ℕ)

abbrev pub seen : (List ℕ → Option (List ℕ)) → (left left' out out' notes notes' : Option (List ℕ)) → Seen
seen content left left' out out' notes notes' =
    record { content = content; left = left; left' = left'; out = out; out' = out'; notes = notes; notes' = notes' }

-- Their counts of failures, before and behind it.
pub record Counts : Type 0 where
  pub files : ℕ
  pub files' : ℕ
  pub source : ℕ
  pub source' : ℕ
  pub out : ℕ
  pub out' : ℕ
  pub notes : ℕ
  pub notes' : ℕ

abbrev pub counts : (files files' source source' out out' notes notes' : ℕ) → Counts
counts files files' source source' out out' notes notes' =
    record { files = files; files' = files'; source = source; source' = source'; out = out; out' = out'; notes = notes; notes' = notes' }

pub record Promise : Type 1 where
  -- All that the order asks for was written, and is well or not: every record is clean, or what else the command asks.
  pub finishes : Bool → Seen → Type 0
  -- The source failed: all that the bytes read complete was written.
  pub stops_reading : Seen → Type 0
  -- All that the first 2^62 bytes of a longer input complete was written.
  pub stops_at_limit : Seen → Type 0
  -- A count would have passed its limit.
  pub stops_at_count : Seen → Type 0
  -- A sink failed: a prefix of all that the order asks for was written,
  pub stops_writing : Seen → Type 0
  -- and little more was read than was written for.
  pub stays_near : Seen → Type 0
  -- There was no memory.
  pub stops_early : Seen → Type 0
  -- By the files' content, the order is refused for this reason.
  pub refused_for : (List ℕ → Option (List ℕ)) → Reason → Type 0
  -- With this content, and this left of the source, the order can be done.
  pub can_finish : (List ℕ → Option (List ℕ)) → Option (List ℕ) → Type 0
  -- It reads a file, and the source.
  pub reads_files : Bool
  pub reads_source : Bool
  -- It writes lines on the notes.
  pub writes_notes : Bool
  -- By what is in the files and left of the source, each clean record is written so that it reads back, or noted.
  pub keeps_records : (List ℕ → Option (List ℕ)) → Option (List ℕ) → Type 0

-- `check`: an accepted description is told.
abbrev pub checking : List ℕ → Settings → Promise
checking name settings = record {
  finishes = λ clean s. (clean ≡ true) × Accepts (s.content name) settings.coding (Appends s.out s.out');
  stops_reading = λ s. ⊥;
  stops_at_limit = λ s. ⊥;
  stops_at_count = λ s. ⊥;
  stops_writing = λ s. Accepts (s.content name) settings.coding (AppendsPrefix s.out s.out');
  stays_near = λ s. Unit {0};
  stops_early = λ s. s.out' ≡ s.out;
  refused_for = λ content reason. IsUnreadFor (content name) settings.coding reason;
  can_finish = λ content left. CanBeRead (content name) settings.coding;
  reads_files = true;
  reads_source = false;
  writes_notes = false;
  keeps_records = λ content left. Unit {0};
}

-- By a module that is there, a prefix of the output was written, and little more was read than was written for.
abbrev pub wrote_some : Preparation → (Description → Work Row Bool) → List ℕ → Cutting → Seen → Type 0
wrote_some prepared work name cutting s = Reads (prepared.is_made (s.content name)) cutting s.left (WroteSome work s.left' s.out s.out' s.notes s.notes')

-- A command that reads records, by how it comes by its module, by what it makes of the module's records, and whether it
-- writes on the notes for them. By a module that is there and an input of at most 2^62 bytes, its output for each record is
-- written on both sinks. Where there is no memory, nothing was read and written, or a prefix was written and little more read.
abbrev pub reading : Preparation → (Description → Work Row Bool) → Bool → List ℕ → Cutting → Promise
reading prepared work noting name cutting = record {
  finishes = λ well s. Reads (prepared.is_made (s.content name)) cutting s.left (WroteAll work s.left' s.out s.out' s.notes s.notes' well);
  stops_reading = λ s. Reads (prepared.is_made (s.content name)) cutting s.left (WroteComplete work s.left' s.out s.out' s.notes s.notes');
  stops_at_limit = λ s. Reads (prepared.is_made (s.content name)) cutting s.left (WroteMost work s.left' s.out s.out' s.notes s.notes');
  stops_at_count = λ s. ⊥;
  stops_writing = λ s. Reads (prepared.is_made (s.content name)) cutting s.left (WrotePrefix work s.left' s.out s.out' s.notes s.notes');
  stays_near = λ s. Reads (prepared.is_made (s.content name)) cutting s.left (ReadLittleAhead work s.left' s.out s.out' s.notes s.notes');
  stops_early = λ s. ((s.out' ≡ s.out) × (s.notes' ≡ s.notes) × (s.left' ≡ s.left))
      ⊎ wrote_some prepared work name cutting s;
  refused_for = λ content why. prepared.refused_for (content name) why;
  can_finish = λ content left. prepared.can_make (content name) × (input : List ℕ) × (left ≡ Some input) × (length input ≤ 2 ^ 62);
  reads_files = true;
  reads_source = true;
  writes_notes = noting;
  keeps_records = λ content left. Unit {0};
}

-- `parse`: a line for each record.
abbrev pub parsing : List ℕ → Settings → Mask → Promise
parsing name settings mask = reading (masking settings.coding mask settings.scan) (λ d. lines d.made) false name settings.cutting

-- `print`: the framed canonical bytes of each clean record that isn't ambiguous, and on the notes a line for each other. Each
-- clean record has canonical bytes, and they are printed where they read back, and else noted.
abbrev pub printing : List ℕ → Settings → Promise
printing name settings = record (reading (describing settings.coding settings.scan) prints true name settings.cutting) {
  keeps_records = λ content left. Reads (IsBounded settings.scan (λ whole. IsDescribedIn (content name) settings.coding whole)) settings.cutting left
      (λ d input. All (λ row. is_clean row ≡ true → IsKept d row) (rows_in prints d (frames_of d input)));
}

-- `summary`: the report of all records, once the input has ended, and nothing before. The module that they are read by has at
-- most so many parts as a summary counts for.
abbrev pub summarizing : List ℕ → Settings → Mask → Promise
summarizing name settings mask = record {
  finishes = λ well s. Reads (IsSummedBy (s.content name) settings mask) settings.cutting s.left (SumsAll s.left' s.out s.out' settings.top well);
  stops_reading = λ s. (s.out' ≡ s.out) × Reads (IsSummedBy (s.content name) settings mask) settings.cutting s.left (SumsComplete s.left');
  stops_at_limit = λ s. (s.out' ≡ s.out) × Reads (IsSummedBy (s.content name) settings mask) settings.cutting s.left (SumsMost s.left');
  stops_at_count = λ s. Reads (IsSummedBy (s.content name) settings mask) settings.cutting s.left (SumsOver s.left');
  stops_writing = λ s. Reads (IsSummedBy (s.content name) settings mask) settings.cutting s.left (SumsSome s.left' s.out s.out' settings.top);
  stays_near = λ s. Unit {0};
  stops_early = λ s. s.out' ≡ s.out;
  refused_for = λ content why. IsUnsummedFor (content name) settings.coding mask why;
  can_finish = λ content left. CanBeSummed (content name) left settings mask;
  reads_files = true;
  reads_source = true;
  writes_notes = false;
  keeps_records = λ content left. Unit {0};
}

-- `query`: a line for each node that the question asks for. What it asks is found by the description.
abbrev pub answering : Question → Settings → Mask → Asked → Promise
answering asks settings mask asked = reading (asking settings.coding mask settings.scan asks asked) (λ d. answers d.made asked) false asks.description settings.cutting

abbrev pub querying : Question → Settings → Mask → Promise
querying asks settings mask = record {
  finishes = λ well s. (asked : Asked) × (answering asks settings mask asked).finishes well s;
  stops_reading = λ s. (asked : Asked) × (answering asks settings mask asked).stops_reading s;
  stops_at_limit = λ s. (asked : Asked) × (answering asks settings mask asked).stops_at_limit s;
  stops_at_count = λ s. ⊥;
  stops_writing = λ s. (asked : Asked) × (answering asks settings mask asked).stops_writing s;
  stays_near = λ s. (asked : Asked) × (answering asks settings mask asked).stays_near s;
  stops_early = λ s. ((s.out' ≡ s.out) × (s.notes' ≡ s.notes) × (s.left' ≡ s.left))
      ⊎ ((asked : Asked) × wrote_some (asking settings.coding mask settings.scan asks asked) (λ d. answers d.made asked) asks.description settings.cutting s);
  refused_for = λ content why. IsUnaskedFor (content asks.description) settings.coding mask asks why;
  can_finish = λ content left. CanBeAsked (content asks.description) settings.coding mask asks × (input : List ℕ) × (left ≡ Some input) × (length input ≤ 2 ^ 62);
  reads_files = true;
  reads_source = true;
  writes_notes = false;
  keeps_records = λ content left. Unit {0};
}

-- `selftest`: one line for so many records that are made. Neither a file nor the source is read.
abbrev pub testing : ℕ → Settings → Promise
testing records settings = record {
  finishes = λ well s. TestsBy settings (λ d. Appends s.out s.out' (selftest_line d records) × (all_clean d records ≡ well));
  stops_reading = λ s. ⊥;
  stops_at_limit = λ s. ⊥;
  stops_at_count = λ s. ⊥;
  stops_writing = λ s. TestsBy settings (λ d. AppendsPrefix s.out s.out' (selftest_line d records));
  stays_near = λ s. Unit {0};
  stops_early = λ s. s.out' ≡ s.out;
  refused_for = λ content reason. IsUnreadFor (Some description) settings.coding reason;
  can_finish = λ content left. CanBeRead (Some description) settings.coding;
  reads_files = false;
  reads_source = false;
  writes_notes = false;
  keeps_records = λ content left. Unit {0};
}

abbrev pub promise_of : Order → Promise
promise_of (order.Check name settings) = checking name settings
promise_of (order.Parse name settings mask) = parsing name settings mask
promise_of (order.Print name settings) = printing name settings
promise_of (order.Summary name settings mask) = summarizing name settings mask
promise_of (order.Query asks settings mask) = querying asks settings mask
promise_of (order.Selftest records settings) = testing records settings

-- A promise is kept, by the ending. What can be done isn't refused, and meets no limit.
abbrev pub Keeps : Promise → Seen → Counts → Ending → Type 0
Keeps p s n ending.Done = p.finishes true s × p.keeps_records s.content s.left
Keeps p s n ending.Dirty = p.finishes false s × p.keeps_records s.content s.left
Keeps p s n (ending.Refused why) = p.refused_for s.content why × (s.out' ≡ s.out) × (p.can_finish s.content s.left → ⊥)
Keeps p s n ending.FileFault = (p.reads_files ≡ true) × Rose n.files n.files' × (s.out' ≡ s.out)
Keeps p s n ending.ReadFault = Rose n.source n.source' × p.stops_reading s
Keeps p s n ending.WriteFault = SinkFailed p.writes_notes n.out n.out' n.notes n.notes' × p.stops_writing s × p.stays_near s
Keeps p s n ending.TooLong = p.stops_at_limit s × (p.can_finish s.content s.left → ⊥)
Keeps p s n ending.Limit = p.stops_at_count s × (s.out' ≡ s.out) × (p.can_finish s.content s.left → ⊥)
Keeps p s n ending.Memory = p.stops_early s
Keeps p s n ending.Usage = ⊥
