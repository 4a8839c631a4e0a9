use Rattle.std.proofs.Common.{◌≡◌, map}
use Rattle.pads_accum.specs.Guides.{plan_of}
use Rattle.pads_accum.proofs.guides.guides_of.Given as goal

abbrev pub invariant-lists : goal.invariant-lists
invariant-lists l = map plan_of l.guides ≡ l.yielded
