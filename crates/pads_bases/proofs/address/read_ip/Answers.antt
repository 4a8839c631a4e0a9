use Rattle.std.proofs.Common.{◌≡◌, arith, pos, to_z, of_z}
use Rattle.std.specs.Int.{w128}
use Rattle.std.proofs.lemmas.Int.{ints, to_z-of_z}
use Rattle.pads_bases.proofs.AddressLemmas.{no_address, an_address}
use Rattle.pads_bases.proofs.address.read_ip.Goals as goal

pub returns-in-None : goal.returns-in-None
returns-in-None c = record { reading = no_address _ _ c.in-None.ensures.address }

pub returns-in-Some : goal.returns-in-Some
returns-in-Some c =
    let number : to_z w128 (of_z w128 c.from.result) ≡ pos c.in-Some.found.number = grind (arith, ints, to_z-of_z) in
    record { reading = rw number (an_address c.args.coding c.args.bytes.now c.in-Some.found.rest.now c.in-Some.found.number c.in-Some.ensures.address) }
