use Rattle.std.proofs.Common.{◌≡◌, ◌++◌, take, map}
use Rattle.pads_violations.proofs.given_names.add_params.Given as goal

abbrev pub invariant-loop-param : goal.invariant-loop-param
invariant-loop-param l = map (λ name. name.now) l.names.items ≡ map (λ name. name.now) l.fn.names.items ++ map (λ param. param.name) (take l.param-index l.params)
