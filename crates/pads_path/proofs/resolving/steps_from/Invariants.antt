use Rattle.std.proofs.Common.{◌≡◌, ◌+◌, drop}
use Rattle.std.specs.Option.{option_copied}
use Rattle.pads_path.specs.Resolving.{resolved_from}
use Rattle.pads_path.specs.Ways.{behind}
use Rattle.pads_path.proofs.resolving.steps_from.Given as goal

abbrev pub invariant-steps : goal.invariant-steps
invariant-steps l = behind l.found (resolved_from l.terms.decls.now l.terms.names.now (l.number + 1) (option_copied l.here) (drop l.number l.steps)) ≡ resolved_from l.terms.decls.now l.terms.names.now 1 (option_copied l.fn.here) l.steps
