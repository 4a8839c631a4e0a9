use Rattle.std.proofs.Common.{◌≡◌, true, take}
use Rattle.pads_module.specs.Bound.{bound_names}
use Rattle.pads_module.specs.Scopes.{exprs_in_scope}
use Rattle.pads_module.proofs.scope.exprs_in_scope.Given as goal

abbrev pub invariant-loop-e : goal.invariant-loop-e
invariant-loop-e l = exprs_in_scope l.names (take l.e-index l.es) (bound_names l.scope) ≡ true
