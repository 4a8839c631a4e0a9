use Rattle.pads_bases.proofs.AddressLemmas.{next_without_dot, next_without_octet, next_there}
use Rattle.pads_bases.proofs.address.read_next.Goals as goal

pub returns-in-None-clause-next : goal.returns-in-None-clause-next
returns-in-None-clause-next c = next_without_dot c.args.front _ c.in-None.ensures.dot

pub returns-in-None-read_octet-clause-next : goal.returns-in-None-read_octet-clause-next
returns-in-None-read_octet-clause-next c = next_without_octet c.args.front _ _ c.in-Some.ensures.dot c.in-None-read_octet.ensures.octet

pub returns-in-Some-read_octet-clause-next : goal.returns-in-Some-read_octet-clause-next
returns-in-Some-read_octet-clause-next c = next_there c.args.front _ _ _ c.in-Some.ensures.dot c.in-Some-read_octet.ensures.octet
