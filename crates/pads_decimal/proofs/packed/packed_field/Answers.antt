use Rattle.std.proofs.Common.{◌≡◌, ◌∙◌, arith, sym, to_z, of_z}
use Rattle.std.specs.Int.{w128}
use Rattle.std.proofs.lemmas.Int.{ints}
use Rattle.pads_decimal.proofs.ReadingLemmas.{packed_empty, packed_other_digit, packed_other_sign, packed_pad_used, packed_whole}
use Rattle.pads_decimal.proofs.packed.packed_field.Goals as goal

pub returns-in_default : goal.returns-in_default
returns-in_default c = record { reading = packed_empty c.args.padded c.args.signed c.args.field.now c.in_default.ensures.cases }

pub returns-in_default-pairs_and_digit : goal.returns-in_default-pairs_and_digit
returns-in_default-pairs_and_digit c =
    record { reading = packed_other_digit c.args.padded c.args.signed c.args.field.now c.in-Some.front.now c.in-Some.last.now c.in-Some.ensures.cases.0 c.in_default-pairs_and_digit.ensures.number }

pub returns-then-not-is_sign : goal.returns-then-not-is_sign
returns-then-not-is_sign c =
    record {
      reading = packed_other_sign c.args.padded c.args.signed c.args.field.now c.in-Some.front.now c.in-Some.last.now c.in-Some-pairs_and_digit.number c.in-Some.ensures.cases.0
          c.in-Some-pairs_and_digit.ensures.number (sym c.is_sign.ensures.sign ∙ c.if-not-is_sign.true);
    }

pub returns-then-pad_is_used : goal.returns-then-pad_is_used
returns-then-pad_is_used c =
    record {
      reading = packed_pad_used c.args.padded c.args.signed c.args.field.now c.in-Some.front.now c.in-Some.last.now c.in-Some-pairs_and_digit.number c.in-Some.ensures.cases.0
          c.in-Some-pairs_and_digit.ensures.number (sym c.is_sign.ensures.sign ∙ c.if-not-is_sign.false) (sym c.pad_is_used.ensures.used ∙ c.if-pad_is_used.true);
    }

pub returns : goal.returns
returns c =
    let whole : to_z w128 (of_z w128 c.with_sign.result) ≡ c.with_sign.result = omega (arith, ints) in
    record {
      reading = rw (whole, c.with_sign.ensures.number)
          (packed_whole c.args.padded c.args.signed c.args.field.now c.in-Some.front.now c.in-Some.last.now c.in-Some-pairs_and_digit.number c.in-Some.ensures.cases.0
          c.in-Some-pairs_and_digit.ensures.number (sym c.is_sign.ensures.sign ∙ c.if-not-is_sign.false) (sym c.pad_is_used.ensures.used ∙ c.if-pad_is_used.false));
    }
