use Rattle.std.proofs.Common.{◌≡◌, ◌++◌, option_copied}
use Rattle.std.specs.List.{filter_map}
use Rattle.pads_orders.specs.Masks.{item_of, pieces_behind}
use Rattle.pads_orders.proofs.Pieces.{bytes_left}
use Rattle.pads_orders.proofs.mask.named_modes.Given as goal

abbrev pub invariant-texts : goal.invariant-texts
invariant-texts l = l.named ++ filter_map item_of (pieces_behind 44 (option_copied l.rest)) ≡ filter_map item_of (pieces_behind 44 (option_copied l.behind))

abbrev pub decreases-texts : goal.decreases-texts
decreases-texts l = bytes_left (option_copied l.rest)
