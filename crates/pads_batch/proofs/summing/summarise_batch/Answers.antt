use Rattle.std.proofs.Common.{map}
use denote.Param.Send.{sendable}
use Rattle.pads_accum.proofs.summary.Summary.TheSendSync as summary
use Rattle.pads_image.proofs.Crossing.{image_sync}
use Rattle.pads_value.specs.Cuts.{cut_of_kept}
use Rattle.pads_batch.proofs.Merging.{summed-answers, summed-calculus}
use Rattle.pads_batch.proofs.summing.summarise_batch.Goals as goal

pub sum_shared-requires-sync-C : goal.sum_shared-requires-sync-C
sum_shared-requires-sync-C g c κs within = search (image_sync, sendable) depth 20

pub sum_shared-requires-sync-S : goal.sum_shared-requires-sync-S
sum_shared-requires-sync-S g c κs within = search (summary.the_sync, sendable) depth 20

pub returns : goal.returns
returns g c =
    let image = c.args.image.now in
    let plan = c.args.summary.now.plan in
    let cuts = map cut_of_kept c.args.frames.now in
    record {
      answers = summed-answers image plan c.args.first_no cuts c.sum_shared.result c.sum_shared.ensures.sums;
      rows = summed-calculus image plan c.args.first_no cuts c.sum_shared.result c.sum_shared.ensures.sums;
    }
