use Rattle.std.proofs.Common.{◌∙◌, arith}
use Rattle.std.proofs.lemmas.Int.{to_z-of_z}
use Rattle.pads_decimal.proofs.ReadingLemmas.{packed_none, packed_short, packed_there}
use Rattle.pads_decimal.proofs.packed.read_packed.Goals as goal

pub returns-in_default : goal.returns-in_default
returns-in_default c =
    let digits_fit = c.ranges.digits in
    record { reading = packed_none c.args.digits c.args.signed c.args.bytes.now (simp to_z-of_z at c.in_default.ensures.count) }

pub returns-then-bytes-width : goal.returns-then-bytes-width
returns-then-bytes-width c =
    let digits_fit = c.ranges.digits in
    record { reading = packed_short c.args.digits c.args.signed c.args.bytes.now c.in-Some.count (simp to_z-of_z at c.in-Some.ensures.count) (omega arith) }

pub returns : goal.returns
returns c =
    let digits_fit = c.ranges.digits in
    record {
      reading = c.packed_field.ensures.reading
          ∙ packed_there c.args.digits c.args.signed c.args.bytes.now c.split_at.result.0.now c.in-Some.count (simp to_z-of_z at c.in-Some.ensures.count) (omega arith) c.split_at.ensures.front;
    }
