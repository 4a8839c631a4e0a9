use Rattle.std.proofs.Common.{◌≡◌, take}
use Rattle.std.specs.List.{list_all}
use Rattle.pads_json.specs.Texts.{stands}
use Rattle.pads_json.proofs.text.run_stands.Given as goal

abbrev pub invariant-points : goal.invariant-points
invariant-points l = l.all ≡ list_all stands (take l.point-index l.points)
