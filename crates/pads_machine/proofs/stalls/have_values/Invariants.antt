use Rattle.std.proofs.Common.{length, reverse}
use Rattle.pads_idle.specs.Idle.{HasValues}
use Rattle.pads_machine.proofs.stalls.have_values.Given as goal

abbrev pub invariant-arguments : goal.invariant-arguments
invariant-arguments l = HasValues l.rest (reverse l.bindings) → HasValues l.args (reverse l.bindings)

abbrev pub decreases-arguments : goal.decreases-arguments
decreases-arguments l = length l.rest
