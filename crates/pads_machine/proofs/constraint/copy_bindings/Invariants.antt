use Rattle.std.proofs.Common.{◌≡◌, take}
use Rattle.pads_machine.proofs.constraint.copy_bindings.Given as goal

abbrev pub invariant-loop-binding : goal.invariant-loop-binding
invariant-loop-binding l = l.copied ≡ take l.binding-index l.bindings
