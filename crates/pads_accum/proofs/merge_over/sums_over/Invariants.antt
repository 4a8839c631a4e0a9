use Rattle.std.proofs.Common.{◌≡◌, ◌+◌, drop}
use Rattle.pads_accum.specs.Limits.{sums_over}
use Rattle.pads_accum.proofs.merge_over.sums_over.Given as goal

-- nothing of the parts before, so the rest is the whole
abbrev pub invariant-parts : goal.invariant-parts
invariant-parts l = sums_over (l.before + l.at) (drop l.at l.sums) (drop l.at l.later) ≡ sums_over l.before l.sums l.later
