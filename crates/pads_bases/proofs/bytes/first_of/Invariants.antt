use Rattle.std.proofs.Common.{◌≡◌, take}
use Rattle.pads_bases.proofs.bytes.first_of.Given as goal

abbrev pub invariant-loop-byte : goal.invariant-loop-byte
invariant-loop-byte l = l.first.items ≡ take l.byte-index l.front
