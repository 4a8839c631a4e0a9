use Rattle.std.proofs.Common.{◌≡◌, take}
use Rattle.pads_value.specs.Header.{capped, counted}
use Rattle.pads_value.proofs.descriptor.total.Given as goal

abbrev pub invariant-loop-kid : goal.invariant-loop-kid
invariant-loop-kid l = l.nerr ≡ capped (counted (take l.kid-index l.kids))
