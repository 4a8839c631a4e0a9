use Rattle.std.proofs.Common.{is_ok}
use Rattle.pads_tool.proofs.close.close.Goals as goal

pub returns-clause-calls : goal.returns-clause-calls
returns-clause-calls g c = (is_ok c.write_all.result, c.write_all.ensures.calls)
