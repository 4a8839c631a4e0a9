use Rattle.pads_erase.proofs.AllKept.{all-kept}
use Rattle.pads_erase.proofs.laws.where_all_is_kept_nothing_is_erased.Goals as goal

pub returns : goal.returns
returns c = record { same = λ keepings depth number v all. all-kept keepings all depth number v }
