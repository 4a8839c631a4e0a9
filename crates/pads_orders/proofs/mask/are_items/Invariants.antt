use Rattle.std.proofs.Common.{◌≡◌, option_copied}
use Rattle.pads_orders.specs.Masks.{are_items, pieces_behind}
use Rattle.pads_orders.proofs.Pieces.{bytes_left}
use Rattle.pads_orders.proofs.mask.are_items.Given as goal

abbrev pub invariant-texts : goal.invariant-texts
invariant-texts l = are_items (pieces_behind 44 (option_copied l.rest)) ≡ are_items (pieces_behind 44 (option_copied l.behind))

abbrev pub decreases-texts : goal.decreases-texts
decreases-texts l = bytes_left (option_copied l.rest)
