use Rattle.pads_module.specs.Modules.{contents}
use Rattle.pads_tool.proofs.Readers.{bounded-made, bounded-stops}
use Rattle.pads_tool.proofs.reader.Reader.bounded.Goals as goal

pub returns-clause-made : goal.returns-clause-made
returns-clause-made c =
    bounded-made c.args.scan (contents c.args.made) (contents c.bound_scan.new.self) c.bound_scan.ensures.bound c.new.result c.new.ensures.made

pub returns-clause-stops : goal.returns-clause-stops
returns-clause-stops c =
    bounded-stops c.args.scan (contents c.args.made) (contents c.bound_scan.new.self) c.bound_scan.ensures.bound c.new.result c.new.ensures.stops
