-- An octet that the code found, with the bytes behind it, as the definitions see it.
use Rattle.pads_code.specs.declared.Coding.{Coding}
use Rattle.pads_code.specs.CodePage.{points_of}
use Rattle.pads_bases.specs.declared.address.Found.{Found}
use Rattle.pads_bases.specs.Addresses.{Numbered}

abbrev pub seen : Coding → Found → Numbered
seen coding found = record { number = found.number; rest = points_of coding found.rest.now }
