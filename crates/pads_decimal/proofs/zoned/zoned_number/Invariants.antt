use Rattle.pads_decimal.proofs.ReadingLemmas.{ZonedDigits}
use Rattle.pads_decimal.proofs.zoned.zoned_number.Given as goal

abbrev pub invariant-loop-byte : goal.invariant-loop-byte
invariant-loop-byte l = ZonedDigits l.bytes l.byte-index l.number
