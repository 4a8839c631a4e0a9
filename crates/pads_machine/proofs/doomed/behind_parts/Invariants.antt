use Rattle.std.proofs.Common.{◌+◌, ◌*◌, ◌≤◌}
use Rattle.pads_machine.specs.Doomed.{AreParts}
use Rattle.pads_machine.proofs.doomed.behind_parts.Given as goal

-- the parts so far
abbrev pub invariant-loop-count : goal.invariant-loop-count
invariant-loop-count l = AreParts l.code l.first l.count l.next × (l.next ≤ l.first + 8 * l.count)
