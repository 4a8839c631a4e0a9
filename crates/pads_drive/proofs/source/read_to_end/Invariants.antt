use Rattle.std.proofs.Common.{◌≡◌, ℕ, ◌-◌, ◌^◌, ◌≤◌, true, false, [], Option, List}
use Rattle.pads_io.specs.Calls.{Call, Many, world}
use Rattle.pads_frame.specs.State.{reach}
use Rattle.pads_drive.specs.Outputs.{Work}
use Rattle.pads_drive.specs.Progress.{Moment}
use Rattle.pads_drive.specs.Ends.{Reads}
use Rattle.pads_drive.specs.Halting.{Caught, IsSized}
use Rattle.pads_drive.specs.Moments.{moment_of}
use Rattle.pads_drive.proofs.source.read_to_end.Given as goal

-- no byte was lost so far, the input is open, each read gave some bytes, no write failed, and nothing has counted a failure
pub record ReadSoFar {Row Tally S K E : Type 0} (work : Work Row Tally) (reads_of : S → Option ℕ → S → Type 0) (writes : K → Option ℕ → K → Type 0) (writes_notes : E → Option ℕ → E → Type 0)
    (source source' : S) (out out' : K) (notes notes' : E) (left left' o o' n n' : Option (List ℕ)) (old new : Moment Tally) (fs fs' fo fo' fn fn' size : ℕ) : Type 0 where
  pub reads : Reads work left left' o o' n n' old new []
  pub calls : Many (Call reads_of writes writes_notes) (world true true source out notes) (world true true source' out' notes')
  pub within : reach new.framer ≤ 2 ^ 62
  pub open_still : new.framer.ended ≡ false
  pub source_kept : fs' ≡ fs
  pub out_kept : fo' ≡ fo
  pub notes_kept : fn' ≡ fn
  pub filled : IsSized new.waiting size
  pub caught : Caught left left' old new

abbrev pub invariant-reads : goal.invariant-reads
invariant-reads g l =
    let command = g.C.Command in
    let s = g.S.Source in
    let k = g.K.Sink in
    let e = g.E.Sink in
    ReadSoFar (command.work l.command) s.reads k.writes e.writes l.initial.source l.source l.initial.out l.out l.initial.notes l.notes (s.left l.initial.source) (s.left l.source) (k.written l.initial.out) (k.written l.out)
    (e.written l.initial.notes) (e.written l.notes) (moment_of l.initial.reading) (moment_of l.reading) (s.faults l.initial.source) (s.faults l.source) (k.faults l.initial.out) (k.faults l.out)
    (e.faults l.initial.notes) (e.faults l.notes) l.reading.batch.size

abbrev pub decreases-reads : goal.decreases-reads
decreases-reads g l = 2 ^ 62 - reach l.reading.framer
