use Rattle.std.proofs.Common.{◌≡◌, drop}
use Rattle.pads_trans.specs.Terms.{terminator, first}
use Rattle.pads_trans.proofs.array.first_terminator.Given as goal

abbrev pub invariant-loop-option : goal.invariant-loop-option
invariant-loop-option l = first terminator l.options ≡ first terminator (drop l.option-index l.options)
