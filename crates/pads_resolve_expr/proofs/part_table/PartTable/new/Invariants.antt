use Rattle.std.proofs.Common.{take}
use Rattle.pads_resolve_expr.specs.Parts.{AreNumbered}
use Rattle.pads_resolve_expr.proofs.part_table.PartTable.new.Given as goal

abbrev pub invariant-loop-decl : goal.invariant-loop-decl
invariant-loop-decl l = AreNumbered (take l.decl-index l.decls) l.numbers
