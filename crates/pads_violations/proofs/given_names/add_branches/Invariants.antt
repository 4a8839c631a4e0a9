use Rattle.std.proofs.Common.{◌≡◌, ◌++◌, take, map}
use Rattle.pads_violations.proofs.given_names.add_branches.Given as goal

abbrev pub invariant-loop-branch : goal.invariant-loop-branch
invariant-loop-branch l = map (λ name. name.now) l.names.items ≡ map (λ name. name.now) l.fn.names.items ++ map (λ branch. branch.now.name) (take l.branch-index l.branches)
