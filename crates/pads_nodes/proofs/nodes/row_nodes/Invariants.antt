use Rattle.std.proofs.Common.{◌≡◌, drop}
use Rattle.std.specs.List.{flat_map}
use Rattle.pads_nodes.specs.Found.{all_seen}
use Rattle.pads_nodes.specs.Nodes.{nodes, body_of}
use Rattle.pads_nodes.proofs.nodes.row_nodes.Given as goal

abbrev pub invariant-steps : goal.invariant-steps
invariant-steps l = flat_map (nodes (drop l.step-index l.steps)) (all_seen l.found.items) ≡ flat_map (nodes l.steps) (body_of l.row)
