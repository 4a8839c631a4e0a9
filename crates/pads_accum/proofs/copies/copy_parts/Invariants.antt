use Rattle.std.proofs.Common.{◌≡◌, take}
use Rattle.pads_accum.proofs.copies.copy_parts.Given as goal

abbrev pub invariant-parts : goal.invariant-parts
invariant-parts l = l.copied ≡ take l.sum-index l.sums
