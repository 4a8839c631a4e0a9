use Rattle.std.proofs.Common.{◌≡◌, take}
use Rattle.pads_print.proofs.scope.scope_over.Given as goal

abbrev pub invariant-loop-lent : goal.invariant-loop-lent
invariant-loop-lent l = l.scope.items ≡ take l.lent-index l.outer
