use Rattle.std.proofs.Common.{◌≡◌, take, map}
use Rattle.pads_ast.specs.declared.types.Param.{Param}
use Rattle.pads_rules.specs.DeclRules.{texts}
use Rattle.pads_counts.specs.Met.{met}
use Rattle.pads_counts.proofs.in_scope.add_params.Given as goal

abbrev pub invariant-loop-param : goal.invariant-loop-param
invariant-loop-param l = l.names ≡ met l.fn.names (texts (map (λ (param : Param). param.name) (take l.param-index l.params)))
