use Rattle.std.proofs.Common.{◌≡◌}
use Rattle.law_calculus.specs.Plain.{Plain}
use Rattle.pads_calc.specs.Skeletons.{KeepsAll}
use Rattle.pads_module.specs.Modules.{contents}
use Rattle.pads_tool.proofs.Described.{bounded-gives, by-reader, image-stops-before, undescribed-stop}
use Rattle.pads_tool.proofs.Stops.{stays-err, stays-ok}
use Rattle.pads_tool.specs.Masking.{bounded}
use Rattle.pads_tool.specs.declared.reader.Reader.{Reader}
use Rattle.pads_tool.proofs.text.read_in.Goals as goal

pub returns-in-Ok : goal.returns-in-Ok
returns-in-Ok g c =
    let content = g.F.Files.content c.args.files.now c.args.name.now in
    let m = contents c.in-Ok.made in
    let here = c.in-Ok.ensures.described in
    let before = g.F.Files.faults c.args.files.now in
    let now = g.F.Files.faults c.described_in.new.files in
    let r = c.bounded.result in
    record {
      read = bounded-gives content c.args.coding m here c.args.scan r c.bounded.ensures.made c.bounded.ensures.small;
      plain = by-reader (λ made. Plain made.decls) (bounded c.args.scan m) c.in-Ok.ensures.plain r c.bounded.ensures.made;
      keeps_all = by-reader (λ made. KeepsAll made.decls) (bounded c.args.scan m) c.in-Ok.ensures.keeps_all r c.bounded.ensures.made;
      stops = image-stops-before content c.args.coding m here before now r c.bounded.ensures.stops;
      reads = c.in-Ok.ensures.reads;
      kept = stays-ok Reader (now ≡ before) r c.in-Ok.ensures.kept;
      untold = stays-err Reader (now ≡ before) r c.in-Ok.ensures.kept;
    }

pub returns-in-Err : goal.returns-in-Err
returns-in-Err g c = record {
  read = tt;
  plain = tt;
  keeps_all = tt;
  stops = undescribed-stop (g.F.Files.content c.args.files.now c.args.name.now) c.args.coding
      (g.F.Files.faults c.args.files.now) (g.F.Files.faults c.described_in.new.files) c.in-Err.ending c.in-Err.ensures.stops;
  reads = c.in-Err.ensures.reads;
  kept = tt;
  untold = c.in-Err.ensures.untold;
}
