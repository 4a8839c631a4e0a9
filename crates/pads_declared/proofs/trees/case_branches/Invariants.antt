use Rattle.std.proofs.Common.{◌≡◌, map, take}
use Rattle.pads_declared.proofs.trees.case_branches.Given as goal

abbrev pub invariant-loop-case : goal.invariant-loop-case
invariant-loop-case l = map (λ branch. branch.now) l.found.items ≡ map (λ case. case.branch) (take l.case-index l.cases)
