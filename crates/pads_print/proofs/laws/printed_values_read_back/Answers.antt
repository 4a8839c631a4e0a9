use Rattle.pads_print.proofs.ReadingBack.{printed-input}
use Rattle.pads_print.proofs.laws.printed_values_read_back.Goals as goal

pub returns : goal.returns
returns c = record { input = printed-input }
