use Rattle.std.proofs.Common.{arith}
use Rattle.pads_decimal.proofs.ReadingLemmas.{PairsRead, pairs_stop, pairs_more, pairs_small, pairs_done}
use Rattle.pads_decimal.proofs.packed.pairs.Goals as goal

pub returns-in-None-clause-number : goal.returns-in-None-clause-number
returns-in-None-clause-number c = pairs_stop c.args.bytes.now c.loop-byte.byte-index (omega arith) c.in-None.ensures.pair

pub overflow_mul-number : goal.overflow_mul-number
overflow_mul-number c = omega (arith, pairs_small c.args.bytes.now c.loop-byte.byte-index c.loop-byte.number 16 (omega arith) c.loop-byte.invariant)

pub overflow_add-number : goal.overflow_add-number
overflow_add-number c =
    omega (arith, pairs_small c.args.bytes.now c.loop-byte.byte-index c.loop-byte.number 16 (omega arith) c.loop-byte.invariant, c.from.ensures, c.in-Some.ensures.small)

pub loop-byte-preserved : goal.loop-byte-preserved
loop-byte-preserved c =
    rw c.from.ensures (pairs_more c.args.bytes.now c.loop-byte.byte-index c.loop-byte.number c.in-Some.pair (omega arith) c.in-Some.ensures.pair c.loop-byte.invariant)

pub returns-clause-number : goal.returns-clause-number
returns-clause-number c = pairs_done c.args.bytes.now c.loop-byte.byte-index c.loop-byte.number (omega arith) c.loop-byte.invariant

pub returns-clause-small : goal.returns-clause-small
returns-clause-small c = pairs_small c.args.bytes.now c.loop-byte.byte-index c.loop-byte.number 18 (omega arith) c.loop-byte.invariant
