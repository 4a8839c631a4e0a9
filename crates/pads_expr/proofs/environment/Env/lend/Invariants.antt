use Rattle.std.proofs.Common.{◌≡◌, take}
use Rattle.pads_expr.proofs.environment.Env.lend.Given as goal

abbrev pub invariant-loop-name : goal.invariant-loop-name
invariant-loop-name l = l.lent.items ≡ take l.name-index l.name-items
