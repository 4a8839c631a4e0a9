use Rattle.std.proofs.Common.{◌≡◌, min, take}
use Rattle.pads_code.specs.CodePage.{points_of}
use Rattle.pads_code.specs.Numerals.{number}
use Rattle.pads_bases.proofs.address.number_of.Given as goal

abbrev pub invariant-loop-byte : goal.invariant-loop-byte
invariant-loop-byte l = l.number ≡ min (number (points_of l.coding (take l.byte-index l.digits))) 256
