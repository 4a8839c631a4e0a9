use Rattle.pads_drive.proofs.Halting.{sized-push}
use Rattle.pads_drive.proofs.driving.Batch.push.Goals as goal

pub returns-clause-filled : goal.returns-clause-filled
returns-clause-filled c = sized-push _ _ c.args.kept _ _ _ c.in_ok-push.ensures.ok c.len.ensures.length c.saturating_add-size.ensures c.requires.filled c.requires.few c.requires.light
