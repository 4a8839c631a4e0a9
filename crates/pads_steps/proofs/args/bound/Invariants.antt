use Rattle.std.proofs.Common.{◌≡◌, [], drop}
use Rattle.pads_calc.specs.Arguments.{bound_to}
use Rattle.pads_steps.proofs.args.bound.Given as goal

abbrev pub invariant-loop-i : goal.invariant-loop-i
invariant-loop-i l = bound_to l.names l.args [] ≡ bound_to (drop l.i l.names) (drop l.i l.args) l.env.pairs
