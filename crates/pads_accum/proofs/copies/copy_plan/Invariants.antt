use Rattle.std.proofs.Common.{◌≡◌, map, take}
use Rattle.pads_accum.specs.Guides.{plan_of}
use Rattle.pads_accum.proofs.copies.copy_plan.Given as goal

abbrev pub invariant-lists : goal.invariant-lists
invariant-lists l = l.copied ≡ map plan_of (take l.guide-index l.guides)
