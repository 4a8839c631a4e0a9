use Rattle.std.proofs.Common.{◌≡◌, ◌∙◌, arith, ap, Some}
use Rattle.pads_decimal.specs.HalfBytes.{halves}
use Rattle.pads_decimal.proofs.ReadingLemmas.{one_digit_more, none_before, none_last}
use Rattle.pads_decimal.proofs.packed.pairs_and_digit.Goals as goal

pub returns-in-None : goal.returns-in-None
returns-in-None c = record { number = none_before (halves c.args.bytes.now) c.args.digit c.in-None.ensures.number }

pub returns-then-digit-lt10 : goal.returns-then-digit-lt10
returns-then-digit-lt10 c =
    record { number = rw c.from.ensures (one_digit_more (halves c.args.bytes.now) c.in-Some.number c.args.digit c.in-Some.ensures.number c.if-digit-lt10.true) }

pub returns-else-digit-lt10 : goal.returns-else-digit-lt10
returns-else-digit-lt10 c = record { number = none_last (halves c.args.bytes.now) c.args.digit c.if-digit-lt10.false }
