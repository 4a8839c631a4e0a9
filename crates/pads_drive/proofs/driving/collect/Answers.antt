use Rattle.pads_drive.proofs.Waiting.{waiting}
use Rattle.pads_drive.proofs.driving.collect.Goals as goal

pub returns-in-None-clause-waiting : goal.returns-in-None-clause-waiting
returns-in-None-clause-waiting c _ = waiting _ _ (rw c.in-None.is at c.in_ok-next_kept.ensures.next)
