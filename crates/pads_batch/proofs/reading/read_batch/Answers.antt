use Rattle.std.proofs.Common.{map}
use denote.Param.Send.{sendable}
use Rattle.pads_image.proofs.Crossing.{image_sync}
use Rattle.pads_value.specs.Cuts.{cut_of_kept}
use Rattle.pads_batch.proofs.Rows.{if-answer, if-calculus}
use Rattle.pads_batch.proofs.reading.read_batch.Goals as goal

pub read_shared-requires-sync-C : goal.read_shared-requires-sync-C
read_shared-requires-sync-C g c κs within = search (image_sync, sendable) depth 20

pub returns : goal.returns
returns g c = record {
  answers = if-answer c.args.image.now c.args.first_no (map cut_of_kept c.args.frames.now) c.read_shared.result c.read_shared.ensures.rows;
  rows = if-calculus c.args.image.now c.args.first_no (map cut_of_kept c.args.frames.now) c.read_shared.result c.read_shared.ensures.rows;
}
