use Rattle.std.proofs.Common.{map}
use Rattle.pads_value.specs.Cuts.{cut_of_kept}
use Rattle.pads_batch.proofs.There.{whole-summed}
use Rattle.pads_batch.proofs.summing.ImageSumsUp.sum_piece.Goals as goal

pub returns : goal.returns
returns g c = record {
  sums = whole-summed c.args.self.now (g.S.Blanks.plan c.args.summary.now) c.args.first_no (map cut_of_kept c.args.frames.now) c.sum_records.result c.sum_records.ensures.sums;
}
