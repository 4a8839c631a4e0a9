use Rattle.std.proofs.Common.{◌≡◌, take, flat_map}
use Rattle.pads_ast.specs.NameTokens.{names_in_param}
use Rattle.pads_counts.specs.Met.{met}
use Rattle.pads_counts.proofs.in_decl.meet_params.Given as goal

abbrev pub invariant-loop-param : goal.invariant-loop-param
invariant-loop-param l = l.names ≡ met l.fn.names (flat_map names_in_param (take l.param-index l.params))
