use Rattle.std.proofs.Common.{◌≡◌, drop, map}
use Rattle.pads_accum.specs.Feeding.{placed_over}
use Rattle.pads_accum.specs.Walks.{found_seen}
use Rattle.pads_accum.proofs.over.parts_over.Given as goal

-- nothing of the parts before, so the rest is the whole
abbrev pub invariant-parts : goal.invariant-parts
invariant-parts l =
    placed_over l.before l.at (drop l.at l.sums) (map found_seen l.nodes) ≡ placed_over l.before 0 l.sums (map found_seen l.nodes)
