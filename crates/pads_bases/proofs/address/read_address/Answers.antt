use Rattle.pads_bases.proofs.AddressLemmas.{address_one, address_two, address_three, address_four}
use Rattle.pads_bases.proofs.address.read_address.Goals as goal

pub returns-in-None-clause-address : goal.returns-in-None-clause-address
returns-in-None-clause-address c = address_one _ c.in-None.ensures.octet

pub returns-in-None-read_next-clause-address : goal.returns-in-None-read_next-clause-address
returns-in-None-read_next-clause-address c = address_two _ _ c.in-Some.ensures.octet c.in-None-read_next.ensures.next

pub returns-in-None-read_next-2-clause-address : goal.returns-in-None-read_next-2-clause-address
returns-in-None-read_next-2-clause-address c =
    address_three _ _ _ c.in-Some.ensures.octet c.in-Some-read_next.ensures.next c.in-None-read_next-2.ensures.next

pub returns-in-Some-read_next-2-clause-address : goal.returns-in-Some-read_next-2-clause-address
returns-in-Some-read_next-2-clause-address c =
    address_four _ _ _ _ _ c.in-Some.ensures.octet c.in-Some-read_next.ensures.next c.in-Some-read_next-2.ensures.next c.read_next-in-Some-read_next-2.ensures.next
