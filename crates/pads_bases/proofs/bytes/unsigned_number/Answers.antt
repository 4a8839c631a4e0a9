use Rattle.std.proofs.Common.{◌∙◌, arith}
use Rattle.pads_bases.proofs.BinaryLemmas.{AreBytes, unsigned_low, unsigned_high}
use Rattle.pads_bases.proofs.bytes.unsigned_number.Goals as goal

pub returns-in-Low : goal.returns-in-Low
returns-in-Low c =
    let are : AreBytes c.args.bytes.now = record { small = λ k. omega (arith, c.type_inv.bytes k) } in
    record { number = rw c.in-Low.is (c.read_uint.ensures ∙ unsigned_low c.args.bytes.now are) }

pub returns-in-High : goal.returns-in-High
returns-in-High c =
    let are : AreBytes c.args.bytes.now = record { small = λ k. omega (arith, c.type_inv.bytes k) } in
    record { number = rw c.in-High.is (c.read_uint-in-High.ensures ∙ unsigned_high c.args.bytes.now are) }
