use Rattle.pads_describe.proofs.Clean.{none-least}
use Rattle.pads_describe.proofs.tree_check.check.Goals as goal

pub accepted-requires : goal.accepted-requires
accepted-requires c = record { clean = none-least _ _ c.in_ok-fault.ensures.told c.in-None.is }
