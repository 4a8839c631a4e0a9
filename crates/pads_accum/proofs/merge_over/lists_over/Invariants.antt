use Rattle.std.proofs.Common.{◌≡◌, drop}
use Rattle.pads_accum.specs.Feeding.{before_list}
use Rattle.pads_accum.specs.Limits.{merge_limit, merging_over}
use Rattle.pads_accum.proofs.merge_over.lists_over.Given as goal

-- nothing of the lists before, so the rest is the whole
abbrev pub invariant-lists : goal.invariant-lists
invariant-lists l = merging_over (before_list l.lists l.at) (drop l.at l.lists) (drop l.at l.later) ≡ merge_limit l.lists l.later
