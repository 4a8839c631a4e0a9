use Rattle.pads_drive.proofs.Sharing.{batch-given}
use Rattle.pads_drive.proofs.gather.give_batch.Goals as goal

pub gather-requires-clause-given : goal.gather-requires-clause-given
gather-requires-clause-given g c κs within =
    (_, batch-given (g.C.Command.work c.args.command.now) (g.C.Command.share_of c.args.command.now) _ _ c.args.number _ c.args.frames.now _ c.in-Ok.ensures.pieces (λ place piece r post. post))

pub returns-clause-output : goal.returns-clause-output
returns-clause-output g c =
    c.gather.ensures.output _ (batch-given (g.C.Command.work c.args.command.now) (g.C.Command.share_of c.args.command.now) _ _ c.args.number _ c.args.frames.now _ c.in-Ok.ensures.pieces (λ place piece r post. post))

pub returns-clause-tally : goal.returns-clause-tally
returns-clause-tally g c = λ before tallied.
    c.gather.ensures.tally before _ tallied (batch-given (g.C.Command.work c.args.command.now) (g.C.Command.share_of c.args.command.now) _ _ c.args.number _ c.args.frames.now _ c.in-Ok.ensures.pieces (λ place piece r post. post))
