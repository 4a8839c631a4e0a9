use Rattle.std.proofs.Common.{◌≡◌, take}
use Rattle.pads_image.specs.Skeletons.{kept_in}
use Rattle.pads_image.proofs.keeping.keepings.Given as goal

abbrev pub invariant-loop-entry : goal.invariant-loop-entry
invariant-loop-entry l = l.made ≡ kept_in (take l.entry-index l.entries)
