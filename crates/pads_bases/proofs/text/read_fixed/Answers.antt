use Rattle.std.proofs.Common.{arith}
use Rattle.std.proofs.lemmas.Int.{ints, to_z-of_z}
use Rattle.pads_bases.proofs.StringLemmas.{if_ok_same, fixed_without_width, fixed_short, fixed_whole}
use Rattle.pads_bases.proofs.text.read_fixed.Goals as goal

pub returns-then-width-lt0 : goal.returns-then-width-lt0
returns-then-width-lt0 c = record { reading = fixed_without_width _ _ _ (grind (arith, to_z-of_z)) }

pub returns-then-bytes-width : goal.returns-then-bytes-width
returns-then-bytes-width c = record { reading = fixed_short _ _ _ (grind (arith, to_z-of_z)) (grind (arith, ints, to_z-of_z)) }

pub returns : goal.returns
returns c =
    record {
      reading = if_ok_same _ _ _
          (fixed_whole c.args.coding c.args.width c.args.bytes.now _ _ (grind (arith, ints, to_z-of_z)) (omega (arith, ints)) (omega (arith, ints)) c.split_at.ensures.front)
          c.read_all.ensures.reading;
    }
