use Rattle.std.proofs.Common.{◌≡◌, length}
use Rattle.std.specs.List.{list_any}
use Rattle.pads_bases.specs.Classes.{intervals, lies_in}
use Rattle.pads_bases.proofs.class.has_point.Given as goal

abbrev pub invariant-parts : goal.invariant-parts
invariant-parts l = list_any (lies_in l.point) (intervals l.class) ≡ list_any (lies_in l.point) (intervals l.left)

abbrev pub decreases-parts : goal.decreases-parts
decreases-parts l = length l.left
