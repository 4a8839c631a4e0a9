use Rattle.std.proofs.Common.{arith}
use Rattle.pads_code.specs.CodePage.{points_of}
use Rattle.pads_bases.proofs.ChoiceLemmas.{choice_none, choice_step}
use Rattle.pads_bases.proofs.choice.choose.Goals as goal

pub loop-number-preserved : goal.loop-number-preserved
loop-number-preserved c =
    rw c.reconsidered-best.ensures.choice (choice_step (points_of c.args.coding c.args.bytes.now) c.args.labels.now c.loop-number.number c.loop-number.best _ (omega arith) c.index-labels-number.is c.loop-number.invariant)

pub returns : goal.returns
returns c = record { choice = choice_none (points_of c.args.coding c.args.bytes.now) c.args.labels.now c.loop-number.number c.loop-number.best c.loop-number.invariant (omega arith) }
