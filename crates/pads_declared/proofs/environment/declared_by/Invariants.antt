use Rattle.std.proofs.Common.{◌≡◌, ◌++◌, length, drop}
use Rattle.pads_declared.specs.Leads.{declare_by}
use Rattle.pads_declared.proofs.Lists.{numbered_from}
use Rattle.pads_declared.proofs.environment.declared_by.Given as goal

abbrev pub invariant-loop-decl : goal.invariant-loop-decl
invariant-loop-decl l = l.types ++ numbered_from (declare_by l.outlines) (length l.types) (drop l.decl-index l.decls) ≡ numbered_from (declare_by l.outlines) 0 l.decls
