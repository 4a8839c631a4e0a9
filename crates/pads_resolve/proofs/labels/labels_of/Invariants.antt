use Rattle.std.proofs.Common.{◌≡◌, map, take}
use Rattle.pads_resolution.specs.Bodies.{label_of}
use Rattle.pads_resolve.proofs.labels.labels_of.Given as goal

abbrev pub invariant-loop-label : goal.invariant-loop-label
invariant-loop-label l = l.made ≡ map label_of (take l.label-index l.labels)
