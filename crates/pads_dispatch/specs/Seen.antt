-- A base type with its arguments, as the code lends them, as the definitions see it.
use Rattle.std.specs.Prelude.{Bool, true, nat_le, length}
use Rattle.pads_dispatch.specs.declared.applied.Applied.{Applied as Lent}
use Rattle.pads_dispatch.specs.declared.applied.Applied.TheVariants as lent
use Rattle.pads_dispatch.specs.Applied.{Applied, integer, field, binary, until, fixed, class, char, address, labelled, packed, zoned}

abbrev pub seen : Lent → Applied
seen (lent.Int kind coding) = integer kind coding
seen (lent.IntFw kind coding width) = field kind coding width
seen (lent.Bin kind order size) = binary kind order size
seen (lent.Until coding stop) = until coding stop
seen (lent.Fixed coding width) = fixed coding width
seen (lent.Class coding text) = class coding text.now
seen (lent.Char coding) = char coding
seen (lent.Ip coding) = address coding
seen (lent.Enum coding labels) = labelled coding labels.now
seen (lent.Packed signed digits) = packed signed digits
seen (lent.Zoned signed digits) = zoned signed digits

-- so many labels that 16 bits number them
abbrev pub applied_fits : Applied → Bool
applied_fits (integer kind coding) = true
applied_fits (field kind coding width) = true
applied_fits (binary kind order size) = true
applied_fits (until coding stop) = true
applied_fits (fixed coding width) = true
applied_fits (class coding text) = true
applied_fits (char coding) = true
applied_fits (address coding) = true
applied_fits (labelled coding labels) = nat_le (length labels) 65535
applied_fits (packed signed digits) = true
applied_fits (zoned signed digits) = true
