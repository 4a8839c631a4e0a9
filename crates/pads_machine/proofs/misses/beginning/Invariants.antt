use Rattle.std.proofs.Common.{◌≡◌, length}
use Rattle.pads_image.specs.Beginnings.{begins_with}
use Rattle.pads_machine.proofs.misses.beginning.Given as goal

abbrev pub invariant-instructions : goal.invariant-instructions
invariant-instructions l = begins_with l.rest ≡ begins_with l.code

abbrev pub decreases-instructions : goal.decreases-instructions
decreases-instructions l = length l.rest
