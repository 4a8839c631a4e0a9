use Rattle.std.proofs.Common.{◌≡◌, ℕ, ◌+◌, ◌-◌, vec_len}
use Rattle.pads_accum.specs.Routes.{in_row}
use Rattle.pads_accum.proofs.below.lengthen.Given as goal

abbrev pub invariant-entries : goal.invariant-entries
invariant-entries l = (k : ℕ) → in_row l.row k ≡ in_row l.initial.row k

abbrev pub decreases-entries : goal.decreases-entries
decreases-entries l = l.at + 1 - vec_len l.row
