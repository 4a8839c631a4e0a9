use Rattle.std.proofs.Common.{◌≡◌, ◌++◌, replicate}
use Rattle.pads_int.proofs.spelling.push_zeros.Given as goal

abbrev pub invariant-loop-place : goal.invariant-loop-place
invariant-loop-place l = l.field ≡ l.fn.field ++ replicate l._place l.zero
