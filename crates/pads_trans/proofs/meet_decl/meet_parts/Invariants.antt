use Rattle.std.proofs.Common.{◌≡◌, take}
use Rattle.std.specs.List.{flat_map}
use Rattle.pads_trans.specs.Met.{in_part}
use Rattle.pads_trans.specs.Names.{with_names}
use Rattle.pads_trans.proofs.meet_decl.meet_parts.Given as goal

abbrev pub invariant-loop-part : goal.invariant-loop-part
invariant-loop-part l = l.names ≡ with_names l.initial.names (flat_map in_part (take l.part-index l.parts))
