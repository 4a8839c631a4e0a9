use Rattle.std.proofs.Common.{◌≡◌, ◌++◌, encode_utf8_all, take}
use Rattle.pads_report.proofs.number.write_points.Given as goal

-- the points so far
abbrev pub invariant-points : goal.invariant-points
invariant-points l = l.out ≡ l.initial.out ++ encode_utf8_all (take l.point-index l.points)
