use Rattle.std.proofs.Common.{◌∙◌, arith}
use Rattle.std.proofs.lemmas.Int.{to_z-of_z}
use Rattle.pads_decimal.proofs.ReadingLemmas.{zoned_none, zoned_short, zoned_there}
use Rattle.pads_decimal.proofs.zoned.read_zoned.Goals as goal

pub returns-in_default : goal.returns-in_default
returns-in_default c =
    let digits_fit = c.ranges.digits in
    record { reading = zoned_none c.args.digits c.args.signed c.args.bytes.now (simp to_z-of_z at c.in_default.ensures.count) }

pub returns-then-bytes-count : goal.returns-then-bytes-count
returns-then-bytes-count c =
    let digits_fit = c.ranges.digits in
    record { reading = zoned_short c.args.digits c.args.signed c.args.bytes.now c.in-Some.count (simp to_z-of_z at c.in-Some.ensures.count) (omega arith) }

pub returns : goal.returns
returns c =
    let digits_fit = c.ranges.digits in
    record {
      reading = c.zoned_field.ensures.reading
          ∙ zoned_there c.args.digits c.args.signed c.args.bytes.now c.split_at.result.0.now c.in-Some.count (simp to_z-of_z at c.in-Some.ensures.count) (omega arith) c.split_at.ensures.front;
    }
