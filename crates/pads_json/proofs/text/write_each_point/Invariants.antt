use Rattle.std.proofs.Common.{◌≡◌, ◌++◌, take}
use Rattle.pads_json.proofs.text.write_each_point.Given as goal
use Rattle.pads_json.specs.Texts.{escaped_points}

abbrev pub invariant-points : goal.invariant-points
invariant-points l = l.out ≡ l.initial.out ++ escaped_points (take l.point-index l.points)
