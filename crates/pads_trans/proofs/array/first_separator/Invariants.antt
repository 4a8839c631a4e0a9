use Rattle.std.proofs.Common.{◌≡◌, drop}
use Rattle.pads_trans.specs.Terms.{separator, first}
use Rattle.pads_trans.proofs.array.first_separator.Given as goal

abbrev pub invariant-loop-option : goal.invariant-loop-option
invariant-loop-option l = first separator l.options ≡ first separator (drop l.option-index l.options)
