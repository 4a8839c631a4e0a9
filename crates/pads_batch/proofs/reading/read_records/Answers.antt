use Rattle.std.proofs.Common.{◌∙◌, arith}
use Rattle.pads_batch.specs.Reading.{IsRead}
use Rattle.pads_batch.proofs.Rows.{rows-more}
use Rattle.pads_batch.proofs.reading.read_records.Goals as goal

pub frames-preserved : goal.frames-preserved
frames-preserved g c =
    let so_far = c.frames.invariant in
    let counted = so_far.counted in
    record {
      counted = omega arith;
      roomy = c.read_record.ensures.room ∙ so_far.roomy;
      rows = rows-more (IsRead c.args.image.now) c.args.first_no c.frames.number c.frames.kept-index c.args.frames.now
          c.kept-item.result _ _ _ c.in_ok-row.row c.frames-test.true c.kept-item.is counted c.lend.ensures.same so_far.rows
          (record { answer = c.in_ok-row.ensures.answer; row_is = c.in_ok-row.ensures.row }) c.in_ok-push.ensures.ok;
    }
