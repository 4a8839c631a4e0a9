use Rattle.std.proofs.Common.{take}
use Rattle.pads_declared.specs.Numbered.{IsNumbered}
use Rattle.pads_resolution.specs.Numbers.{has_name}
use Rattle.pads_resolve_expr.proofs.part_table.number_parts.Given as goal

abbrev pub invariant-loop-number : goal.invariant-loop-number
invariant-loop-number l = IsNumbered has_name (take l.number l.parts) l.numbers
