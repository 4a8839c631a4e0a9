use Rattle.std.proofs.Common.{◌≡◌, map, take}
use Rattle.pads_rules.specs.declared.expr_sort.ExprSort.TheVariants as expr_sort
use Rattle.pads_rules.specs.Resolving.{outline}
use Rattle.pads_declared.proofs.environment.unsorted.Given as goal

abbrev pub invariant-loop-decl : goal.invariant-loop-decl
invariant-loop-decl l = l.types ≡ map (outline expr_sort.Unknown) (take l.decl-index l.decls)
