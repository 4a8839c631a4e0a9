use Rattle.pads_batch.proofs.Merging.{parts-fit, sums-merged}
use Rattle.pads_batch.proofs.summing.sum_shared.Goals as goal

pub merge_parts-requires : goal.merge_parts-requires
merge_parts-requires g c = record {
  fits = parts-fit (g.C.SumsUp.is_row c.args.reader.now) (g.S.Blanks.plan c.args.summary.now) _ _ c.args.first_no _ c.args.frames.now c.in-Ok-in_pieces.parts c.in-Ok.blank
      c.in-Ok-in_pieces.ensures.pieces (λ before piece r given. given) c.in-Ok.ensures.empty;
}

pub returns : goal.returns
returns g c = record {
  sums = sums-merged (g.C.SumsUp.is_row c.args.reader.now) (g.S.Blanks.plan c.args.summary.now) _ _ c.args.first_no _ c.args.frames.now c.in-Ok-in_pieces.parts c.in-Ok.blank
      c.merge_parts.result c.in-Ok-in_pieces.ensures.pieces (λ before piece r given. given) c.in-Ok.ensures.empty c.merge_parts.ensures.sums;
}
