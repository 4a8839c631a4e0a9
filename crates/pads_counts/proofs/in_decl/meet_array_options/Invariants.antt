use Rattle.std.proofs.Common.{◌≡◌, take, flat_map}
use Rattle.pads_ast.specs.NameTokens.{names_in_array_option}
use Rattle.pads_counts.specs.Met.{met}
use Rattle.pads_counts.proofs.in_decl.meet_array_options.Given as goal

abbrev pub invariant-loop-option : goal.invariant-loop-option
invariant-loop-option l = l.names ≡ met l.fn.names (flat_map names_in_array_option (take l.option-index l.options))
