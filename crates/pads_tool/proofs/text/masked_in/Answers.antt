use Rattle.std.proofs.Common.{◌≡◌}
use Rattle.pads_module.specs.Modules.{contents}
use Rattle.pads_module.specs.declared.module.Module.{Module}
use Rattle.pads_tool.proofs.Masked.{masked-gives, masked-stops, unmasked-stop}
use Rattle.pads_tool.proofs.Stops.{stays-err, stays-ok}
use Rattle.pads_tool.proofs.text.masked_in.Goals as goal

pub returns-in-Ok : goal.returns-in-Ok
returns-in-Ok g c =
    let content = g.F.Files.content c.args.files.now c.args.name.now in
    let m = contents c.in-Ok.whole in
    let before = g.F.Files.faults c.args.files.now in
    let now = g.F.Files.faults c.described_in.new.files in
    let r = c.masked.result in
    record {
      masked = masked-gives content c.args.coding c.args.mask.now m c.in-Ok.ensures.described r c.masked.ensures.masked;
      stops = masked-stops content c.args.coding c.args.mask.now m c.in-Ok.ensures.described before now r c.masked.ensures.stops;
      reads = c.in-Ok.ensures.reads;
      kept = stays-ok Module (now ≡ before) r c.in-Ok.ensures.kept;
      untold = stays-err Module (now ≡ before) r c.in-Ok.ensures.kept;
    }

pub returns-in-Err : goal.returns-in-Err
returns-in-Err g c = record {
  masked = tt;
  stops = unmasked-stop (g.F.Files.content c.args.files.now c.args.name.now) c.args.coding c.args.mask.now
      (g.F.Files.faults c.args.files.now) (g.F.Files.faults c.described_in.new.files) c.in-Err.ending c.in-Err.ensures.stops;
  reads = c.in-Err.ensures.reads;
  kept = tt;
  untold = c.in-Err.ensures.untold;
}
