use Rattle.std.proofs.Common.{ap, true, ◌∙◌}
use Rattle.pads_io.specs.Calls.{stays}
use Rattle.pads_drive.specs.declared.output.Output.{Output}
use Rattle.pads_drive.proofs.Progress.{flat_map-nothing, stops-over, stops-unwritten, stops-waiting}
use Rattle.pads_drive.proofs.Halting.{halts-hand, halts-idle}
use Rattle.pads_drive.proofs.Blame.{cause-weaker}
use Rattle.pads_drive.proofs.flush.flush.Goals as goal

pub returns-in-Err-Fault-clause-err : goal.returns-in-Err-Fault-clause-err
returns-in-Err-Fault-clause-err g c =
    stops-over (g.C.Command.work c.args.command.now) _ _ _ (λ before t. rw (c.in-Err-Fault.field-0-is, c.as_slice-frames.ensures.items) at (c.in-Err-Fault.ensures.tally before t))

pub returns-in-Err-Memory-clause-err : goal.returns-in-Err-Memory-clause-err
returns-in-Err-Memory-clause-err g c = stops-unwritten _ _ _ _

pub returns-in-Err-clause-err : goal.returns-in-Err-clause-err
returns-in-Err-clause-err g c =
    stops-waiting (g.C.Command.work c.args.command.now) _ _ _ _ _ c.in-Ok.output c.in-Err.stop (rw c.as_slice-frames.ensures.items at c.in-Ok.ensures.output) c.in-Err.ensures.err c.in-Err.ensures.sink

pub returns-in-Err-clause-halts : goal.returns-in-Err-clause-halts
returns-in-Err-clause-halts g c =
    halts-hand (g.C.Command.work c.args.command.now) _ _ _ _ _ c.in-Ok.output c.requires.filled.batch c.in-Err.ensures.err

pub returns-in-Err-Fault-clause-halts : goal.returns-in-Err-Fault-clause-halts
returns-in-Err-Fault-clause-halts g c = halts-idle (g.C.Command.work c.args.command.now) _ _ _ c.requires.filled.batch

pub returns-in-Err-Memory-clause-halts : goal.returns-in-Err-Memory-clause-halts
returns-in-Err-Memory-clause-halts g c = halts-idle (g.C.Command.work c.args.command.now) _ _ _ c.requires.filled.batch

pub returns-in-Err-clause-cause : goal.returns-in-Err-clause-cause
returns-in-Err-clause-cause g c =
    let work = g.C.Command.work c.args.command.now in
    cause-weaker _ _ _ _ _ _ _ (λ none. ap (λ (o : Output). o.notes) c.in-Ok.ensures.output ∙ flat_map-nothing work.notes _ none) c.in-Err.ensures.cause

pub returns-in-Err-Fault-clause-calls : goal.returns-in-Err-Fault-clause-calls
returns-in-Err-Fault-clause-calls g c = (true, stays, tt)

pub returns-in-Err-Memory-clause-calls : goal.returns-in-Err-Memory-clause-calls
returns-in-Err-Memory-clause-calls g c = (true, stays, tt)
