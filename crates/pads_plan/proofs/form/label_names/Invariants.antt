use Rattle.std.proofs.Common.{◌≡◌, map, take}
use Rattle.pads_plan.proofs.form.label_names.Given as goal

-- the names so far
abbrev pub invariant-labels : goal.invariant-labels
invariant-labels l = l.names ≡ map (λ label. label.name) (take l.label-index l.labels)
