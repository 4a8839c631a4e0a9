use Rattle.std.proofs.Common.{true}
use Rattle.pads_io.specs.Calls.{stays}
use Rattle.pads_tool.proofs.summary.tell_report.Goals as goal

pub returns-in_default-clause-calls : goal.returns-in_default-clause-calls
returns-in_default-clause-calls g c = (true, stays)
