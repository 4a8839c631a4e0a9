use Rattle.std.proofs.Common.{◌∙◌, sym}
use Rattle.pads_batch.proofs.Merging.{refused-behind}
use Rattle.pads_batch.proofs.Sums.{joins}
use Rattle.pads_batch.proofs.summing.take_part.Goals as goal

pub merge-requires : goal.merge-requires
merge-requires c =
    let (plan, before, rows, is, sums) = c.requires.fits in
    let more = rw c.in-Ok.is at sums in
    record { unspent = is.unspent; later_unspent = more.unspent; plans = more.plan_is ∙ sym is.plan_is }

pub returns-in-Ok : goal.returns-in-Ok
returns-in-Ok c = record {
  takes = λ plan before rows is sums. joins plan before rows c.args.whole.now c.in-Ok.chunk c.merge.new.self c.merge.result is (rw c.in-Ok.is at sums) c.merge.ensures.plan c.merge.ensures.spent
      c.merge.ensures.merged c.merge.ensures.within c.merge.ensures.limit;
}

pub returns-in-Err : goal.returns-in-Err
returns-in-Err c = record { takes = λ plan before rows is sums. refused-behind plan before rows c.in-Err.refusal (rw c.in-Err.is at sums) }
