use Rattle.std.proofs.Common.{◌≡◌, map, take}
use Rattle.pads_resolution.specs.declared.types.Param.{Param}
use Rattle.pads_trans.proofs.decl.params.Given as goal
use Rattle.pads_trans.specs.Names.{number_of}

abbrev pub invariant-loop-param : goal.invariant-loop-param
invariant-loop-param l = l.numbers ≡ map (λ (param : Param). number_of l.names param.name) (take l.param-index l.params)
