use Rattle.std.proofs.Common.{◌≡◌, ℕ, ◌+◌, ◌-◌, ◌^◌, ◌≤◌, [], true, Option, List, length}
use Rattle.pads_io.specs.Calls.{WritesOnBoth}
use Rattle.pads_drive.specs.Outputs.{Work}
use Rattle.pads_drive.specs.Progress.{Moment, Progresses}
use Rattle.pads_drive.specs.Halting.{IsSized, met}
use Rattle.pads_drive.specs.Moments.{moment_of}
use Rattle.pads_drive.proofs.pump.pump.Given as goal

-- no frame was lost so far, what was read is written, the input is open or ended as before, no write failed, and no sink has counted a failure
pub record Pumped {Row Tally K E : Type 0} (work : Work Row Tally) (writes : K → Option ℕ → K → Type 0) (writes_notes : E → Option ℕ → E → Type 0) (out out' : K) (notes notes' : E) (o o' n n' : Option (List ℕ)) (old new : Moment Tally) (fo fo' fn fn' size : ℕ) : Type 0 where
  pub progress : Progresses work o o' n n' old new []
  pub calls : WritesOnBoth writes writes_notes out notes out' notes' true
  pub ended : new.framer.ended ≡ old.framer.ended
  pub out_kept : fo' ≡ fo
  pub notes_kept : fn' ≡ fn
  pub kept : met old ≤ met new
  pub filled : IsSized new.waiting size

abbrev pub invariant-batches : goal.invariant-batches
invariant-batches g l =
    let command = g.C.Command in
    let k = g.K.Sink in
    let e = g.E.Sink in
    Pumped (command.work l.command) k.writes e.writes l.initial.out l.out l.initial.notes l.notes (k.written l.initial.out) (k.written l.out) (e.written l.initial.notes) (e.written l.notes)
    (moment_of l.initial.reading) (moment_of l.reading) (k.faults l.initial.out) (k.faults l.out) (e.faults l.initial.notes) (e.faults l.notes) l.reading.batch.size

abbrev pub decreases-batches : goal.decreases-batches
decreases-batches g l = (2 ^ 62 + length l.reading.batch.frames) - l.reading.framer.first
