use Rattle.pads_batch.proofs.Sums.{blank-sum}
use Rattle.pads_batch.proofs.summing.SummaryBlanks.blank.Goals as goal

pub returns : goal.returns
returns c = record {
  empty = blank-sum c.args.self.now.plan c.blank_chunk.result c.blank_chunk.ensures.plan c.blank_chunk.ensures.empty c.blank_chunk.ensures.unspent;
}
