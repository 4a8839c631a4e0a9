use Rattle.std.proofs.Common.{◌≡◌, map, take}
use Rattle.pads_rules.specs.Resolving.{type_sort}
use Rattle.pads_declared.proofs.copies.param_sorts.Given as goal

abbrev pub invariant-loop-param : goal.invariant-loop-param
invariant-loop-param l = l.sorts ≡ map (λ param. type_sort l.sight param.of) (take l.param-index l.params)
