use Rattle.std.proofs.Common.{◌≡◌, length}
use Rattle.pads_orders.specs.Options.{arguments}
use Rattle.pads_orders.proofs.reading.first_argument.Given as goal

abbrev pub invariant-words : goal.invariant-words
invariant-words l = arguments l.rest ≡ arguments l.words

abbrev pub decreases-words : goal.decreases-words
decreases-words l = length l.rest
