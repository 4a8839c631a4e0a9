use Rattle.std.proofs.Common.{◌≡◌, ◌++◌, drop, option_map, reverse}
use Rattle.pads_calc.specs.Arguments.{arguments}
use Rattle.pads_steps.proofs.args.arguments_lent.Given as goal

abbrev pub invariant-loop-e : goal.invariant-loop-e
invariant-loop-e l = arguments l.es (reverse l.bindings) ≡ option_map (λ more. l.args ++ more) (arguments (drop l.e-index l.es) (reverse l.bindings))
