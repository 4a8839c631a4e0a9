use Rattle.std.proofs.Common.{◌≡◌, map, take}
use Rattle.pads_trans.specs.Expressions.{expr_of}
use Rattle.pads_trans.proofs.expr.translate_exprs.Given as goal

abbrev pub invariant-loop-e : goal.invariant-loop-e
invariant-loop-e l = l.made ≡ map (expr_of l.names) (take l.e-index l.es)
