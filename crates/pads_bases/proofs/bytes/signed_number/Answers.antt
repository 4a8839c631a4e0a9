use Rattle.std.proofs.Common.{◌≡◌, ◌∙◌, ap, arith, length, to_z, of_z, w64}
use Rattle.std.proofs.lemmas.Int.{ints}
use Rattle.byteorder.specs.Endian.{twos_complement}
use Rattle.pads_bases.proofs.BinaryLemmas.{AreBytes, unsigned_low, unsigned_high}
use Rattle.pads_bases.proofs.bytes.signed_number.Goals as goal

pub returns-in-Low : goal.returns-in-Low
returns-in-Low c =
    let are : AreBytes c.args.bytes.now = record { small = λ k. omega (arith, c.type_inv.bytes k) } in
    let whole : to_z w64 (of_z w64 c.read_int.result) ≡ c.read_int.result = omega (arith, ints) in
    record { number = rw c.in-Low.is (whole ∙ (c.read_int.ensures ∙ ap (twos_complement (length c.args.bytes.now)) (unsigned_low c.args.bytes.now are))) }

pub returns-in-High : goal.returns-in-High
returns-in-High c =
    let are : AreBytes c.args.bytes.now = record { small = λ k. omega (arith, c.type_inv.bytes k) } in
    let whole : to_z w64 (of_z w64 c.read_int-in-High.result) ≡ c.read_int-in-High.result = omega (arith, ints) in
    record { number = rw c.in-High.is (whole ∙ (c.read_int-in-High.ensures ∙ ap (twos_complement (length c.args.bytes.now)) (unsigned_high c.args.bytes.now are))) }
