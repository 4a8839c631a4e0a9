use Rattle.std.proofs.Common.{◌≡◌, take}
use Rattle.pads_dispatch.proofs.base.copy_args.Given as goal

abbrev pub invariant-loop-arg : goal.invariant-loop-arg
invariant-loop-arg l = l.copied ≡ take l.arg-index l.args
