use Rattle.std.proofs.Common.{◌≡◌, map, take}
use Rattle.pads_resolve.specs.Borrowed.{stands}
use Rattle.pads_resolution.specs.Bodies.{case_at}
use Rattle.pads_resolve.proofs.unions.cases_at.Given as goal

abbrev pub invariant-loop-case : goal.invariant-loop-case
invariant-loop-case l = record {
  made : l.made ≡ map (case_at (stands l.site) l.fn.names) (take l.case-index l.cases);
  names : l.names ≡ l.fn.names;
}
