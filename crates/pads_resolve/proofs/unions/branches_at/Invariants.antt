use Rattle.std.proofs.Common.{◌≡◌, map, take}
use Rattle.pads_resolve.specs.Borrowed.{stands}
use Rattle.pads_resolution.specs.Bodies.{branch_at}
use Rattle.pads_resolve.proofs.unions.branches_at.Given as goal

abbrev pub invariant-loop-branch : goal.invariant-loop-branch
invariant-loop-branch l = record {
  made : l.made ≡ map (branch_at (stands l.site) l.fn.params) (take l.branch-index l.branches);
  names : l.names ≡ l.fn.params;
}
