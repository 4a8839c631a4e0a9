use Rattle.std.proofs.Common.{◌≡◌, drop}
use Rattle.pads_rules.specs.Faults.{lesser}
use Rattle.pads_violations.specs.InBodies.{labels_told}
use Rattle.pads_violations.proofs.bodies.labels.Given as goal

abbrev pub invariant-loop-one : goal.invariant-loop-one
invariant-loop-one l = lesser l.best (labels_told (drop l.one-index l.labels)) ≡ labels_told l.labels
