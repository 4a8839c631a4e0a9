use Rattle.pads_decimal.proofs.ReadingLemmas.{PairsRead}
use Rattle.pads_decimal.proofs.packed.pairs.Given as goal

abbrev pub invariant-loop-byte : goal.invariant-loop-byte
invariant-loop-byte l = PairsRead l.bytes l.byte-index l.number
