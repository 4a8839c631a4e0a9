use Rattle.std.proofs.Common.{◌≡◌, length}
use Rattle.pads_orders.specs.Options.{values}
use Rattle.pads_orders.proofs.option.first.Given as goal

abbrev pub invariant-words : goal.invariant-words
invariant-words l = values l.beginning l.rest ≡ values l.beginning l.words

abbrev pub decreases-words : goal.decreases-words
decreases-words l = length l.rest
