use Rattle.pads_print.proofs.ReadingBack.{back-decides, ambiguous-decides}
use Rattle.pads_print.proofs.SameValues.{same-decides}
use Rattle.pads_print.proofs.laws.tests_hold_exactly.Goals as goal

pub returns : goal.returns
returns c = record { same = same-decides; back = back-decides; ambiguous = ambiguous-decides }
