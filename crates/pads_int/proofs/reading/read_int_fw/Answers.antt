use Rattle.std.proofs.Common.{arith, ◌∙◌}
use Rattle.std.proofs.lemmas.Int.{to_z-of_z, ints}
use Rattle.pads_int.proofs.ReadingLemmas.{fw_without_width, fw_short, fw_field}
use Rattle.pads_int.proofs.reading.read_int_fw.Goals as goal

pub returns-then-width-lt1 : goal.returns-then-width-lt1
returns-then-width-lt1 c = record { reading = fw_without_width _ _ _ _ (grind (arith, to_z-of_z)) }

pub returns-then-bytes-width : goal.returns-then-bytes-width
returns-then-bytes-width c = record { reading = fw_short _ _ _ _ (grind (arith, to_z-of_z)) (grind (arith, ints, to_z-of_z)) }

pub returns : goal.returns
returns c = record { reading = c.read_field.ensures.reading ∙ fw_field _ _ _ _ _ _ (grind (arith, to_z-of_z)) (grind (arith, ints, to_z-of_z)) (omega (arith, ints)) c.split_at.ensures.front }
