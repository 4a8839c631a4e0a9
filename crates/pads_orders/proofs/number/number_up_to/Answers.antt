use Rattle.std.proofs.Common.{◌≡◌, ◌+◌, nat_le, false, arith, rules, refl}
use Rattle.std.proofs.lemmas.Bool.{lt-leb}
use Rattle.pads_code.specs.Numerals.{number}
use Rattle.pads_orders.proofs.Folding.{front_least, one_more}
use Rattle.pads_orders.proofs.number.number_up_to.Goals as goal

pub returns-then-number-greatest-clause-number : goal.returns-then-number-greatest-clause-number
returns-then-number-greatest-clause-number c =
    let more = one_more c.digits.digit-index c.args.text.now (search rules) in
    let least = front_least (c.digits.digit-index + 1) c.args.text.now in
    let above : nat_le (number c.args.text.now) c.args.greatest ≡ false =
    lt-leb (number c.args.text.now) c.args.greatest (omega (arith, more, least, c.with_digit-number.ensures.number, c.digits.invariant.0, c.if-number-greatest.true)) in
    rw above refl
