use Rattle.std.proofs.Common.{◌≡◌}
use Rattle.pads_module.specs.Modules.{contents}
use Rattle.pads_tool.proofs.Masked.{read-gives, unread-stops}
use Rattle.pads_tool.proofs.Stops.{stays-err, stays-ok}
use Rattle.pads_tool.specs.declared.reader.Reader.{Reader}
use Rattle.pads_tool.proofs.text.read_under.Goals as goal

pub returns-in-Ok : goal.returns-in-Ok
returns-in-Ok g c =
    let content = g.F.Files.content c.args.files.now c.args.name.now in
    let m = contents c.in-Ok.made in
    let here = c.in-Ok.ensures.masked in
    let before = g.F.Files.faults c.args.files.now in
    let now = g.F.Files.faults c.masked_in.new.files in
    let r = c.bounded.result in
    record {
      read = read-gives content c.args.coding c.args.mask.now m here c.args.scan r c.bounded.ensures.made c.bounded.ensures.small;
      stops = unread-stops content c.args.coding c.args.mask.now m here before now r c.bounded.ensures.stops;
      reads = c.in-Ok.ensures.reads;
      kept = stays-ok Reader (now ≡ before) r c.in-Ok.ensures.kept;
      untold = stays-err Reader (now ≡ before) r c.in-Ok.ensures.kept;
    }
