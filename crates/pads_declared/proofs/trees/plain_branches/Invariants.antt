use Rattle.std.proofs.Common.{◌≡◌, map, take}
use Rattle.pads_declared.proofs.trees.plain_branches.Given as goal

abbrev pub invariant-loop-branch : goal.invariant-loop-branch
invariant-loop-branch l = map (λ branch. branch.now) l.found.items ≡ take l.branch-index l.branches
