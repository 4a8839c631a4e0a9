use denote.Param.Send.{sendable}
use Rattle.pads_module.specs.Modules.{contents}
use Rattle.pads_tool.proofs.Tested.{never-over}
use Rattle.pads_tool.specs.Describing.{described}
use Rattle.pads_tool.proofs.Crossing.{machine_send, tests_sync}
use Rattle.pads_tool.proofs.selftest.tested.Goals as goal

pub unreachable-requires-in-Err-Limit : goal.unreachable-requires-in-Err-Limit
unreachable-requires-in-Err-Limit g c =
    let prints = c.args.command.now.prints in
    let gives = rw (c.in-Err-Limit.field-0-is, c.new.ensures.left) at c.in-Err-Limit.ensures.gives in
    never-over (described (contents prints.reader.module) prints.cutting) c.args.records prints.limit prints.fits c.requires.few gives.3

pub drive-requires-send-C-Reader : goal.drive-requires-send-C-Reader
drive-requires-send-C-Reader g c κs within = search (machine_send, sendable) depth 60 fits 20000

pub drive-requires-sync-C : goal.drive-requires-sync-C
drive-requires-sync-C g c κs within = search (tests_sync, sendable) depth 60 fits 20000
