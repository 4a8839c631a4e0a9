use Rattle.std.proofs.Common.{◌≡◌, ◌++◌, take, map}
use Rattle.pads_violations.proofs.given_names.add_labels.Given as goal

abbrev pub invariant-loop-label : goal.invariant-loop-label
invariant-loop-label l = map (λ name. name.now) l.names.items ≡ map (λ name. name.now) l.fn.names.items ++ map (λ label. label.name) (take l.label-index l.labels)
