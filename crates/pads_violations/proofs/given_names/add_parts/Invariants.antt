use Rattle.std.proofs.Common.{◌≡◌, ◌++◌, take, map, flat_map}
use Rattle.pads_ast.specs.Trees.{part_names}
use Rattle.pads_violations.proofs.given_names.add_parts.Given as goal

abbrev pub invariant-loop-part : goal.invariant-loop-part
invariant-loop-part l = map (λ name. name.now) l.names.items ≡ map (λ name. name.now) l.fn.names.items ++ flat_map part_names (take l.part-index l.parts)
