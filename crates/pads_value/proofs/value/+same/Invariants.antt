use Rattle.std.proofs.Common.{◌≡◌, take}
use Rattle.pads_value.proofs.value.+same.Given as goal

abbrev pub invariant-all_same-loop-i : goal.invariant-all_same-loop-i
invariant-all_same-loop-i l = take l.i l.a ≡ take l.i l.b
