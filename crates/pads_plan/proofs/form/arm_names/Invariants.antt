use Rattle.std.proofs.Common.{◌≡◌, take}
use Rattle.pads_plan.specs.Pending.{arm_names}
use Rattle.pads_plan.proofs.form.arm_names.Given as goal

-- the names so far
abbrev pub invariant-arms : goal.invariant-arms
invariant-arms l = l.names ≡ arm_names l.terms.names.now (take l.arm-index l.arms)
