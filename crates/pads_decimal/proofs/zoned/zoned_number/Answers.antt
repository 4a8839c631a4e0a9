use Rattle.std.proofs.Common.{arith}
use Rattle.pads_decimal.proofs.ReadingLemmas.{ZonedDigits, zoned_stop, zoned_more, zoned_small, zoned_done}
use Rattle.pads_decimal.proofs.zoned.zoned_number.Goals as goal

pub returns-in-None-clause-number : goal.returns-in-None-clause-number
returns-in-None-clause-number c = zoned_stop c.args.bytes.now c.loop-byte.byte-index (omega arith) c.in-None.ensures.digit

pub overflow_mul-number : goal.overflow_mul-number
overflow_mul-number c = omega (arith, zoned_small c.args.bytes.now c.loop-byte.byte-index c.loop-byte.number 16 (omega arith) c.loop-byte.invariant)

pub overflow_add-number : goal.overflow_add-number
overflow_add-number c =
    omega (arith, zoned_small c.args.bytes.now c.loop-byte.byte-index c.loop-byte.number 16 (omega arith) c.loop-byte.invariant, c.from.ensures, c.in-Some.ensures.small)

pub loop-byte-preserved : goal.loop-byte-preserved
loop-byte-preserved c =
    rw c.from.ensures (zoned_more c.args.bytes.now c.loop-byte.byte-index c.loop-byte.number c.in-Some.digit (omega arith) c.in-Some.ensures.digit c.loop-byte.invariant)

pub returns-clause-number : goal.returns-clause-number
returns-clause-number c = zoned_done c.args.bytes.now c.loop-byte.byte-index c.loop-byte.number (omega arith) c.loop-byte.invariant

pub returns-clause-small : goal.returns-clause-small
returns-clause-small c = zoned_small c.args.bytes.now c.loop-byte.byte-index c.loop-byte.number 17 (omega arith) c.loop-byte.invariant
