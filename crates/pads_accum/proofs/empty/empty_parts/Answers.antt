use Rattle.std.proofs.Common.{◌∙◌, [], arith}
use Rattle.pads_sums.specs.Sums.{part_sum}
use Rattle.pads_accum.proofs.EmptyLaws.{map_more, map_all, empty_sums}
use Rattle.pads_accum.proofs.empty.empty_parts.Goals as goal

pub parts-preserved : goal.parts-preserved
parts-preserved c =
    λ room.
    c.in_ok-push.ensures.ok
    ∙ map_more (λ part. part_sum room part.place part.form []) c.args.parts.now c.parts.part-index c.part-item.result c.parts.sums c.in_ok-empty_part.field-0
    (omega (arith, c.parts-test.true)) c.part-item.is (c.parts.invariant room) (c.in_ok-empty_part.ensures.none room)

pub returns : goal.returns
returns c = record {
  none =
      λ room.
      c.parts.invariant room
      ∙ map_all (λ part. part_sum room part.place part.form []) c.args.parts.now c.parts.part-index c.parts-test.false
      ∙ empty_sums room c.args.parts.now 0 c.args.parts.now;
}
