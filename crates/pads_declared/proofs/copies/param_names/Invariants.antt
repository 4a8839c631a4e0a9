use Rattle.std.proofs.Common.{◌≡◌, map, take}
use Rattle.pads_rules.specs.Resolving.{param_named}
use Rattle.pads_declared.proofs.copies.param_names.Given as goal

abbrev pub invariant-loop-param : goal.invariant-loop-param
invariant-loop-param l = l.names ≡ map (param_named l.sight) (take l.param-index l.params)
