use Rattle.std.proofs.Common.{◌≡◌, map, take}
use Rattle.pads_trans.specs.Terms.{label_of}
use Rattle.pads_trans.proofs.types.labels.Given as goal

abbrev pub invariant-loop-one : goal.invariant-loop-one
invariant-loop-one l = l.made ≡ map label_of (take l.one-index l.labels)
