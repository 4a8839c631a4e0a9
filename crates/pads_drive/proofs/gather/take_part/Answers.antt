use Rattle.pads_drive.proofs.Sharing.{joined-output, refuses-behind}
use Rattle.pads_drive.proofs.gather.take_part.Goals as goal

pub add-requires-clause-shared : goal.add-requires-clause-shared
add-requires-clause-shared g c =
    let (rows, given) = c.requires.given in
    (rows, (rw c.in-Ok.is at given).1)

pub returns-in-Err-clause-tally : goal.returns-in-Err-clause-tally
returns-in-Err-clause-tally g c = λ before rows tallied given.
    let laws = g.met.C.Command g.world.𝓛 g.world.𝓜 g.world.𝓡 ((λ s x. x), (λ x. x), (λ x. x), λ x. x) in
    refuses-behind (g.C.Command.work c.args.command.now) (g.C.Command.share_of c.args.command.now) (laws.stays_over c.args.command.now) before rows c.in-Err.refusal (rw c.in-Err.is at given)

pub returns-in-Err-add-clause-tally : goal.returns-in-Err-add-clause-tally
returns-in-Err-add-clause-tally g c = λ before rows tallied given. c.in-Err-add.ensures.tally before rows tallied (rw c.in-Ok.is at given).1

pub returns-clause-output : goal.returns-clause-output
returns-clause-output g c = λ before rows written given.
    joined-output (g.C.Command.work c.args.command.now) (g.C.Command.share_of c.args.command.now) before rows _ _ _ written (rw c.in-Ok.is at given).0 c.in-Ok-put_behind.ensures.joined

pub returns-clause-tally : goal.returns-clause-tally
returns-clause-tally g c = λ before rows tallied given. c.in_default.ensures.tally before rows tallied (rw c.in-Ok.is at given).1
