use Rattle.std.proofs.Common.{◌≡◌, map, take}
use Rattle.pads_trans.specs.Terms.{case_of}
use Rattle.pads_trans.proofs.body.keyed_cases.Given as goal

abbrev pub invariant-loop-one : goal.invariant-loop-one
invariant-loop-one l = l.made ≡ map (case_of l.names l.ambient) (take l.one-index l.cases)
