use Rattle.pads_print.proofs.SameValues.{same-told}
use Rattle.pads_print.proofs.reading.has_value.Goals as goal

pub returns : goal.returns
returns c = record { same = same-told c.args.row.now.value c.args.value.now c.same.result c.same.ensures.same }
