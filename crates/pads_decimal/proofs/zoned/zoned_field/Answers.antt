use Rattle.std.proofs.Common.{◌≡◌, ◌∙◌, ◌+◌, ◌*◌, ◌%◌, arith, sym, to_z, of_z}
use Rattle.std.specs.Int.{w128}
use Rattle.std.proofs.lemmas.Int.{ints}
use Rattle.pads_decimal.proofs.ReadingLemmas.{zoned_empty, zoned_other_zone, zoned_other_digit, zoned_other_sign, zoned_whole}
use Rattle.pads_decimal.proofs.zoned.zoned_field.Goals as goal

pub returns-in_default : goal.returns-in_default
returns-in_default c = record { reading = zoned_empty c.args.signed c.args.field.now c.in_default.ensures.cases }

pub returns-in_default-zoned_number : goal.returns-in_default-zoned_number
returns-in_default-zoned_number c =
    record { reading = zoned_other_zone c.args.signed c.args.field.now c.in-Some.front.now c.in-Some.last.now c.in-Some.ensures.cases.0 c.in_default-zoned_number.ensures.number }

pub returns-then-digit-ge10 : goal.returns-then-digit-ge10
returns-then-digit-ge10 c = record { reading = zoned_other_digit c.args.signed c.args.field.now c.in-Some.front.now c.in-Some.last.now c.in-Some.ensures.cases.0 c.if-digit-ge10.true }

pub returns-then-not-is_sign : goal.returns-then-not-is_sign
returns-then-not-is_sign c =
    record { reading = zoned_other_sign c.args.signed c.args.field.now c.in-Some.front.now c.in-Some.last.now c.in-Some.ensures.cases.0 (sym c.is_sign.ensures.sign ∙ c.if-not-is_sign.true) }

pub returns : goal.returns
returns c =
    let whole : to_z w128 (of_z w128 c.with_sign.result) ≡ c.with_sign.result = omega (arith, ints) in
    record {
      reading = rw (whole, c.with_sign.ensures.number, c.from.ensures)
          (zoned_whole c.args.signed c.args.field.now c.in-Some.front.now c.in-Some.last.now c.in-Some-zoned_number.number c.in-Some.ensures.cases.0
          c.in-Some-zoned_number.ensures.number c.if-digit-ge10.false (sym c.is_sign.ensures.sign ∙ c.if-not-is_sign.false));
    }
