use Rattle.std.proofs.Common.{◌≡◌}
use Rattle.pads_module.specs.declared.module.Module.{Module}
use Rattle.pads_tool.proofs.Described.{described-gives, described-stops}
use Rattle.pads_tool.proofs.Stops.{stays-err, stays-ok}
use Rattle.pads_tool.proofs.text.described_in.Goals as goal

pub returns-in-Ok : goal.returns-in-Ok
returns-in-Ok g c =
    let content = g.F.Files.content c.args.files.now c.args.name.now in
    let before = g.F.Files.faults c.args.files.now in
    let now = g.F.Files.faults c.text_in.new.files in
    let r = c.described_by.result in
    record {
      described = described-gives content c.args.coding c.in-Ok.text c.in-Ok.ensures.text r (rw c.as_slice.ensures.items at c.described_by.ensures.described);
      plain = c.described_by.ensures.plain;
      keeps_all = c.described_by.ensures.keeps_all;
      stops = described-stops content c.args.coding c.in-Ok.text c.in-Ok.ensures.text before now r (rw c.as_slice.ensures.items at c.described_by.ensures.stops);
      reads = c.in-Ok.ensures.reads;
      kept = stays-ok Module (now ≡ before) r c.in-Ok.ensures.kept;
      untold = stays-err Module (now ≡ before) r c.in-Ok.ensures.kept;
    }
