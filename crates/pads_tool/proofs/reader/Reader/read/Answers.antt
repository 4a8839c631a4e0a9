use Rattle.pads_value.specs.Cuts.{cut_of_frame}
use Rattle.pads_tool.proofs.Readers.{row-by}
use Rattle.pads_tool.proofs.reader.Reader.read.Goals as goal

pub returns-clause-row : goal.returns-clause-row
returns-clause-row c =
    row-by c.args.self.now c.args.number (cut_of_frame c.args.frame.now) c.read_record.result c.read_record.ensures.row
