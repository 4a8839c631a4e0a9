use Rattle.std.proofs.Common.{◌≡◌, map, take}
use Rattle.pads_declared.proofs.copies.label_names.Given as goal

abbrev pub invariant-loop-label : goal.invariant-loop-label
invariant-loop-label l = l.names ≡ map (λ label. label.name.text) (take l.label-index l.labels)
