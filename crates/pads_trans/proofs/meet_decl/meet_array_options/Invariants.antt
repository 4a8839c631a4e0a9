use Rattle.std.proofs.Common.{◌≡◌, take}
use Rattle.std.specs.List.{flat_map}
use Rattle.pads_trans.specs.Met.{in_array_option}
use Rattle.pads_trans.specs.Names.{with_names}
use Rattle.pads_trans.proofs.meet_decl.meet_array_options.Given as goal

abbrev pub invariant-loop-option : goal.invariant-loop-option
invariant-loop-option l = l.names ≡ with_names l.initial.names (flat_map in_array_option (take l.option-index l.options))
