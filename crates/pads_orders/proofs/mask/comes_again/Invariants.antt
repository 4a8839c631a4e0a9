use Rattle.std.proofs.Common.{◌≡◌, option_copied}
use Rattle.pads_orders.specs.Masks.{comes_again, pieces_behind}
use Rattle.pads_orders.proofs.Pieces.{bytes_left}
use Rattle.pads_orders.proofs.mask.comes_again.Given as goal

abbrev pub invariant-texts : goal.invariant-texts
invariant-texts l = comes_again l.name (pieces_behind 44 (option_copied l.rest)) ≡ comes_again l.name (pieces_behind 44 (option_copied l.behind))

abbrev pub decreases-texts : goal.decreases-texts
decreases-texts l = bytes_left (option_copied l.rest)
