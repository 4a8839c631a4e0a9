use Rattle.std.proofs.Common.{◌≡◌, ◌≤◌, take}
use Rattle.pads_code.specs.Numerals.{number}
use Rattle.pads_orders.proofs.number.number_up_to.Given as goal

abbrev pub invariant-digits : goal.invariant-digits
invariant-digits l = (l.number ≡ number (take l.digit-index l.text)) × (l.number ≤ l.greatest)
