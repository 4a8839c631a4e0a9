use Rattle.std.proofs.Common.{refl, arith}
use Rattle.std.specs.Int.RustNames.{unsigned_abs}
use Rattle.std.proofs.lemmas.Int.{ints, to_z-of_z}
use Rattle.pads_bases.proofs.DottedLemmas.{spelled_below, spelled_above, spelled_address, in_32_bits}
use Rattle.pads_bases.proofs.dotted.spell_ip.Goals as goal

pub returns-then-v-lt0 : goal.returns-then-v-lt0
returns-then-v-lt0 c = record { spelling = spelled_below _ _ (grind (arith, to_z-of_z)) }

pub returns-then-from-v : goal.returns-then-from-v
returns-then-from-v c = record { spelling = spelled_above _ _ (grind (arith, ints, to_z-of_z)) }

pub returns : goal.returns
returns c =
    let number_fits = c.ranges.v in
    let one = simp to_z-of_z at c.push_octet.ensures.pushed in
    let two = simp to_z-of_z at c.push_next.ensures.pushed in
    let three = simp to_z-of_z at c.push_next-2.ensures.pushed in
    let four = simp to_z-of_z at c.push_next-3.ensures.pushed in
    let number = in_32_bits c.args.v (grind (arith, to_z-of_z)) (grind (arith, ints, to_z-of_z)) in
    record { spelling = spelled_address c.args.coding c.args.v (unsigned_abs c.args.v) _ number.0 number.1 (rw (four, three, two, one, c.new-spelled.ensures) refl) }
