use Rattle.std.proofs.Common.{true}
use Rattle.pads_io.specs.Calls.{stays}
use Rattle.pads_tool.proofs.Promises.{check-stopped}
use Rattle.pads_tool.specs.Promises.{counts}
use Rattle.pads_tool.proofs.check.check.Goals as goal

-- there is no accepted description
pub returns-in-Err-clause-gives : goal.returns-in-Err-clause-gives
returns-in-Err-clause-gives g c = λ left left' noted noted' source source' notes notes'.
    check-stopped c.args.name.now c.args.settings.now (g.F.Files.content c.args.files.now) left left' (g.K.Sink.written c.args.out.now) noted noted'
    (counts (g.F.Files.faults c.args.files.now) (g.F.Files.faults c.accepted_in.new.files) source source'
    (g.K.Sink.faults c.args.out.now) (g.K.Sink.faults c.args.out.now) notes notes')
    c.in-Err.ending c.in-Err.ensures.stops

pub returns-in-Err-clause-calls : goal.returns-in-Err-clause-calls
returns-in-Err-clause-calls g c = (true, stays)
