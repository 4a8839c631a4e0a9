use Rattle.pads_mask.proofs.Formed.{stays-formed}
use Rattle.pads_mask.proofs.PlainMasks.{stays-plain}
use Rattle.pads_mask.proofs.SortedMasks.{stays-sorted-module}
use Rattle.pads_mask.proofs.laws.masked_modules_are_sound.Goals as goal

pub returns : goal.returns
returns c = record { well_formed = stays-formed; plain = stays-plain; sorted = stays-sorted-module }
