use Rattle.std.proofs.Common.{◌≡◌, length}
use Rattle.pads_accum.specs.Merging.{lists_merged}
use Rattle.pads_accum.proofs.merge.merge_lists.Given as goal

-- with those that are left it is what all make of it
abbrev pub invariant-lists : goal.invariant-lists
invariant-lists l = lists_merged l.room l.lists l.rest ≡ lists_merged l.room l.initial.lists l.initial.rest

abbrev pub decreases-lists : goal.decreases-lists
decreases-lists l = length l.rest
