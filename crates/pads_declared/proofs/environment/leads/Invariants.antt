use Rattle.std.proofs.Common.{◌≡◌, ◌++◌, length, drop}
use Rattle.pads_declared.specs.Leads.{lead_by}
use Rattle.pads_declared.proofs.Lists.{numbered_from}
use Rattle.pads_declared.proofs.environment.leads.Given as goal

abbrev pub invariant-loop-decl : goal.invariant-loop-decl
invariant-loop-decl l = l.leads ++ numbered_from (lead_by l.types) (length l.leads) (drop l.decl-index l.decls) ≡ numbered_from (lead_by l.types) 0 l.decls
