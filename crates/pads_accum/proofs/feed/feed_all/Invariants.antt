use Rattle.std.proofs.Common.{◌≡◌, map, take}
use Rattle.pads_accum.specs.Feeding.{all_fed}
use Rattle.pads_accum.specs.Walks.{found_seen}
use Rattle.pads_accum.proofs.feed.feed_all.Given as goal

abbrev pub invariant-nodes : goal.invariant-nodes
invariant-nodes l = l.sums ≡ all_fed l.room l.parts l.initial.sums (map found_seen (take l.node-index l.nodes))
