use Rattle.std.proofs.Common.{◌≡◌, map, take}
use Rattle.pads_resolution.specs.declared.types.Param.{Param}
use Rattle.pads_trans.specs.Names.{with_names}
use Rattle.pads_trans.proofs.meet_decl.meet_params.Given as goal

abbrev pub invariant-loop-param : goal.invariant-loop-param
invariant-loop-param l = l.names ≡ with_names l.initial.names (map (λ (param : Param). param.name) (take l.param-index l.params))
