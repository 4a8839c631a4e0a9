use Rattle.std.proofs.Common.{◌≡◌, take}
use Rattle.pads_compile.proofs.leaf.copy_exprs.Given as goal

abbrev pub invariant-loop-expr : goal.invariant-loop-expr
invariant-loop-expr l = l.copied ≡ take l.expr-index l.exprs
