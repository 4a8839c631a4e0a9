use Rattle.std.proofs.Common.{take}
use Rattle.pads_declared.specs.Numbered.{IsNumbered, has_text}
use Rattle.pads_declared.proofs.member_numbers.number_named.Given as goal

abbrev pub invariant-loop-number : goal.invariant-loop-number
invariant-loop-number l = IsNumbered has_text (take l.number l.named) l.numbers
