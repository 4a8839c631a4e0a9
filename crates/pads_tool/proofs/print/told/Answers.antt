use Rattle.pads_tool.proofs.Readers.{image-stands}
use Rattle.pads_tool.proofs.print.told.Goals as goal

pub print-requires-clause-stands : goal.print-requires-clause-stands
print-requires-clause-stands c = image-stands c.args.command.now.reader
