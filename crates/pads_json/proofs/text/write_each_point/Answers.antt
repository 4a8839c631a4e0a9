use Rattle.std.proofs.Common.{arith}
use Rattle.pads_json.proofs.Texts.{point_next}
use Rattle.pads_json.proofs.text.write_each_point.Goals as goal

pub points-preserved : goal.points-preserved
points-preserved c =
    rw c.in_ok-write_point.ensures.written (point_next c.args.points.now _ _ c.points.point-index _ _ (omega arith) (omega (arith, c.points-test.true)) c.points.invariant)
