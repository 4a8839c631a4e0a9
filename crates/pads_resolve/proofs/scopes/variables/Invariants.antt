use Rattle.std.proofs.Common.{◌≡◌, map, take}
use Rattle.pads_resolution.specs.Scopes.{variable}
use Rattle.pads_rules.specs.Resolving.{param_named}
use Rattle.pads_resolve.proofs.scopes.variables.Given as goal

abbrev pub invariant-loop-param : goal.invariant-loop-param
invariant-loop-param l = l.names ≡ map (λ param. variable (param_named l.sight param)) (take l.param-index l.params)
