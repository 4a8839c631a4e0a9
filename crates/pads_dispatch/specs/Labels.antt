-- How many labels a base type may have: their numbers are of 16 bits.
use Rattle.std.specs.Prelude.{Bool, true, nat_le, length}
use Rattle.pads_dispatch.specs.declared.base.Base.{Base}
use Rattle.pads_dispatch.specs.declared.base.Base.TheVariants as base

abbrev pub labels_fit : Base → Bool
labels_fit (base.Int kind coding) = true
labels_fit (base.IntFw kind coding) = true
labels_fit (base.Bin kind order) = true
labels_fit (base.Until coding) = true
labels_fit (base.UntilEor coding) = true
labels_fit (base.Fixed coding) = true
labels_fit (base.Class coding) = true
labels_fit (base.Char coding) = true
labels_fit (base.Ip coding) = true
labels_fit (base.Enum coding labels) = nat_le (length labels) 65535
labels_fit (base.Packed signed) = true
labels_fit (base.Zoned signed) = true
