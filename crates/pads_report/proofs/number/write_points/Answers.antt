use Rattle.std.proofs.Common.{arith}
use Rattle.pads_report.proofs.Points.{point_next}
use Rattle.pads_report.proofs.number.write_points.Goals as goal

pub points-preserved : goal.points-preserved
points-preserved c =
    rw c.in_ok-write_point.ensures.written (point_next c.args.points.now _ _ c.points.point-index _ _ (omega arith) (omega (arith, c.points-test.true)) c.points.invariant)
