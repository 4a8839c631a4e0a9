use Rattle.std.proofs.Common.{Some}
use Rattle.pads_module.specs.Modules.{contents}
use Rattle.pads_selftest.specs.Description.{description}
use Rattle.pads_tool.proofs.Described.{image-stops, read-gives, undescribed-for}
use Rattle.pads_tool.proofs.selftest.test_reader.Goals as goal

pub returns-in-Ok : goal.returns-in-Ok
returns-in-Ok c =
    let m = contents c.in-Ok.module in
    let here = rw c.description.ensures.text at c.in-Ok.ensures.described in
    record {
      read = read-gives (Some description) c.args.coding m here c.new.result c.new.ensures.made c.new.ensures.small;
      stops = image-stops (Some description) c.args.coding m here c.new.result c.new.ensures.stops;
    }

pub returns-in-Err : goal.returns-in-Err
returns-in-Err c = record {
  read = tt;
  stops = undescribed-for (Some description) c.args.coding c.in-Err.ending (rw c.description.ensures.text at c.in-Err.ensures.stops);
}
