use Rattle.std.proofs.Common.{take}
use Rattle.pads_declared.specs.Numbered.{IsNumbered, is_text}
use Rattle.pads_declared.proofs.member_numbers.number_labels.Given as goal

abbrev pub invariant-loop-number : goal.invariant-loop-number
invariant-loop-number l = IsNumbered is_text (take l.number l.labels) l.numbers
