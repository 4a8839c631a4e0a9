use Rattle.std.proofs.Common.{◌≡◌, drop}
use Rattle.pads_trans.specs.Terms.{last, first}
use Rattle.pads_trans.proofs.array.first_last.Given as goal

abbrev pub invariant-loop-option : goal.invariant-loop-option
invariant-loop-option l = first last l.options ≡ first last (drop l.option-index l.options)
