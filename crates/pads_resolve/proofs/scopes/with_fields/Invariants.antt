use Rattle.std.proofs.Common.{◌≡◌, drop}
use Rattle.pads_resolution.specs.Scopes.{fields_after}
use Rattle.pads_resolve.proofs.scopes.with_fields.Given as goal

abbrev pub invariant-loop-number : goal.invariant-loop-number
invariant-loop-number l = fields_after l.sight l.names l.number (drop l.number l.parts) ≡ fields_after l.sight l.params 0 l.parts
