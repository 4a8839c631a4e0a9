use Rattle.std.proofs.Common.{◌≡◌}
use Rattle.pads_image.specs.Heights.{needs}
use Rattle.pads_image.specs.Validity.{arities_of}
use Rattle.pads_image.proofs.need.needs_inside.Given as goal

abbrev pub invariant-loop-depth : goal.invariant-loop-depth
invariant-loop-depth l = l.table ≡ needs l.code (arities_of l.entries) l.depth
