use Rattle.std.proofs.Common.{◌≡◌, length}
use Rattle.pads_accum.specs.Merging.{parts_merged}
use Rattle.pads_accum.proofs.merge.merge_parts.Given as goal

-- with those that are left it is what all make of it
abbrev pub invariant-parts : goal.invariant-parts
invariant-parts l = parts_merged l.room l.sums l.rest ≡ parts_merged l.room l.initial.sums l.initial.rest

abbrev pub decreases-parts : goal.decreases-parts
decreases-parts l = length l.rest
