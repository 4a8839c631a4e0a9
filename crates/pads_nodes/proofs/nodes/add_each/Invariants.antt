use Rattle.std.proofs.Common.{◌≡◌, ◌++◌, drop}
use Rattle.std.specs.List.{zip}
use Rattle.pads_nodes.specs.Found.{all_seen}
use Rattle.pads_nodes.proofs.nodes.add_each.Given as goal

abbrev pub invariant-elements : goal.invariant-elements
invariant-elements l = all_seen l.found.items ++ zip (drop l.i l.elements) (drop l.i l.kids) ≡ all_seen l.fn.found.items ++ zip l.elements l.kids
