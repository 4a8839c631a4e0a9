use Rattle.std.proofs.Common.{◌≡◌, take}
use Rattle.std.specs.List.{flat_map}
use Rattle.pads_trans.specs.Met.{in_case}
use Rattle.pads_trans.specs.Names.{with_names}
use Rattle.pads_trans.proofs.meet_decl.meet_cases.Given as goal

abbrev pub invariant-loop-case : goal.invariant-loop-case
invariant-loop-case l = l.names ≡ with_names l.initial.names (flat_map in_case (take l.case-index l.cases))
