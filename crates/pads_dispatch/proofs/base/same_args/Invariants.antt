use Rattle.std.proofs.Common.{◌≡◌, take}
use Rattle.pads_dispatch.proofs.base.same_args.Given as goal

abbrev pub invariant-loop-i : goal.invariant-loop-i
invariant-loop-i l = take l.i l.a ≡ take l.i l.b
