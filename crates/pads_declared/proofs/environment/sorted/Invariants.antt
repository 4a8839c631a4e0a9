use Rattle.std.proofs.Common.{◌≡◌, ◌++◌, length, drop}
use Rattle.pads_declared.specs.Leads.{far_outline}
use Rattle.pads_declared.proofs.Lists.{numbered_from}
use Rattle.pads_declared.proofs.environment.sorted.Given as goal

abbrev pub invariant-loop-decl : goal.invariant-loop-decl
invariant-loop-decl l = l.types ++ numbered_from (far_outline l.unsorted l.far) (length l.types) (drop l.decl-index l.decls) ≡ numbered_from (far_outline l.unsorted l.far) 0 l.decls
