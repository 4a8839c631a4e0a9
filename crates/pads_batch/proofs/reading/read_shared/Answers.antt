use Rattle.pads_batch.proofs.Rows.{if-rows}
use Rattle.pads_batch.proofs.reading.read_shared.Goals as goal

pub returns : goal.returns
returns g c = record {
  rows = if-rows (g.C.Reads.is_row c.args.reader.now) _ _ c.args.first_no _ c.args.frames.now c.in_ok-parts.parts c.put_together.result
      c.in_ok-parts.ensures.pieces (λ before piece r given. given) c.put_together.ensures.whole;
}
