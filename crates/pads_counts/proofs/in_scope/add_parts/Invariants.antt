use Rattle.std.proofs.Common.{◌≡◌, take, flat_map}
use Rattle.pads_rules.specs.DeclRules.{texts}
use Rattle.pads_ast.specs.Trees.{part_names}
use Rattle.pads_counts.specs.Met.{met}
use Rattle.pads_counts.proofs.in_scope.add_parts.Given as goal

abbrev pub invariant-loop-part : goal.invariant-loop-part
invariant-loop-part l = l.names ≡ met l.fn.names (texts (flat_map part_names (take l.part-index l.parts)))
