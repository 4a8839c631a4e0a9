use Rattle.std.proofs.Common.{◌≡◌, map, take}
use Rattle.pads_trans.specs.Terms.{arm_of}
use Rattle.pads_trans.proofs.body.arms.Given as goal

abbrev pub invariant-loop-branch : goal.invariant-loop-branch
invariant-loop-branch l = l.made ≡ map (arm_of l.names l.ambient) (take l.branch-index l.branches)
