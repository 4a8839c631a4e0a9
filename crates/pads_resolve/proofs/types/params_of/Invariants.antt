use Rattle.std.proofs.Common.{◌≡◌, map, take}
use Rattle.pads_resolution.specs.Types.{param_of}
use Rattle.pads_resolve.proofs.types.params_of.Given as goal

abbrev pub invariant-loop-param : goal.invariant-loop-param
invariant-loop-param l = l.made ≡ map (param_of l.sight) (take l.param-index l.written)
