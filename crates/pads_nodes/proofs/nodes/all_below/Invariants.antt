use Rattle.std.proofs.Common.{◌≡◌, take}
use Rattle.std.specs.List.{flat_map}
use Rattle.pads_nodes.specs.Found.{all_seen}
use Rattle.pads_nodes.specs.Nodes.{below}
use Rattle.pads_nodes.proofs.nodes.all_below.Given as goal

abbrev pub invariant-nodes : goal.invariant-nodes
invariant-nodes l = all_seen l.found.items ≡ flat_map (below l.step) (all_seen (take l.node-index l.above))
