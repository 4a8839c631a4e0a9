use Rattle.std.proofs.Common.{◌≡◌, take}
use Rattle.pads_bases.proofs.enums.copy_labels.Given as goal

abbrev pub invariant-loop-label : goal.invariant-loop-label
invariant-loop-label l = l.copied ≡ take l.label-index l.labels
