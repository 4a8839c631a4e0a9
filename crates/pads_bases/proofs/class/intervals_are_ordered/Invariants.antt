use Rattle.std.proofs.Common.{◌≡◌, length}
use Rattle.std.specs.List.{list_all}
use Rattle.pads_bases.specs.Classes.{intervals, is_interval}
use Rattle.pads_bases.proofs.class.intervals_are_ordered.Given as goal

abbrev pub invariant-parts : goal.invariant-parts
invariant-parts l = list_all is_interval (intervals l.class) ≡ list_all is_interval (intervals l.left)

abbrev pub decreases-parts : goal.decreases-parts
decreases-parts l = length l.left
