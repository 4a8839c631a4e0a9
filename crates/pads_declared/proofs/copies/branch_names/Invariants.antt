use Rattle.std.proofs.Common.{◌≡◌, map, take}
use Rattle.pads_rules.specs.Resolving.{branch_named}
use Rattle.pads_declared.proofs.copies.branch_names.Given as goal

abbrev pub invariant-loop-branch : goal.invariant-loop-branch
invariant-loop-branch l = l.names ≡ map (λ branch. branch_named l.sight branch.now) (take l.branch-index l.branches)
