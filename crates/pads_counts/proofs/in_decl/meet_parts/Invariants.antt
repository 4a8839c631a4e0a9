use Rattle.std.proofs.Common.{◌≡◌, take, flat_map}
use Rattle.pads_ast.specs.NameTokens.{names_in_part}
use Rattle.pads_counts.specs.Met.{met}
use Rattle.pads_counts.proofs.in_decl.meet_parts.Given as goal

abbrev pub invariant-loop-part : goal.invariant-loop-part
invariant-loop-part l = l.names ≡ met l.fn.names (flat_map names_in_part (take l.part-index l.parts))
