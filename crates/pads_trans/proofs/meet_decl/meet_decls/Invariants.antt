use Rattle.std.proofs.Common.{◌≡◌, take}
use Rattle.std.specs.List.{flat_map}
use Rattle.pads_trans.specs.Met.{in_decl}
use Rattle.pads_trans.specs.Names.{with_names}
use Rattle.pads_trans.proofs.meet_decl.meet_decls.Given as goal

abbrev pub invariant-loop-decl : goal.invariant-loop-decl
invariant-loop-decl l = l.names ≡ with_names l.initial.names (flat_map in_decl (take l.decl-index l.decls))
