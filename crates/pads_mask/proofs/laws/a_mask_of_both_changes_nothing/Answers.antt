use Rattle.pads_mask.proofs.Whole.{whole}
use Rattle.pads_mask.proofs.laws.a_mask_of_both_changes_nothing.Goals as goal

pub returns : goal.returns
returns c = record { same = whole }
