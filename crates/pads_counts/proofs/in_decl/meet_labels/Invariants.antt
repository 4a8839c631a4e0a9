use Rattle.std.proofs.Common.{◌≡◌, take, map}
use Rattle.pads_ast.specs.declared.decl.Label.{Label}
use Rattle.pads_counts.specs.Met.{met}
use Rattle.pads_counts.proofs.in_decl.meet_labels.Given as goal

abbrev pub invariant-loop-label : goal.invariant-loop-label
invariant-loop-label l = l.names ≡ met l.fn.names (map (λ (label : Label). label.name.text) (take l.label-index l.labels))
