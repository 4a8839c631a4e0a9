use Rattle.std.proofs.Common.{◌≡◌, map, take}
use Rattle.pads_trans.specs.Terms.{part_of}
use Rattle.pads_trans.proofs.body.parts.Given as goal

abbrev pub invariant-loop-one : goal.invariant-loop-one
invariant-loop-one l = l.made ≡ map (part_of l.names l.ambient) (take l.one-index l.parts)
