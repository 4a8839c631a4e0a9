use Rattle.std.proofs.Common.{◌+◌, ◌*◌, ◌≤◌}
use Rattle.pads_steps.specs.Records.{subject_of}
use Rattle.pads_idle.specs.Idle.{AreIdleParts}
use Rattle.pads_idle.proofs.parts.idle_parts.Given as goal

abbrev pub invariant-loop-count : goal.invariant-loop-count
invariant-loop-count l =
    AreIdleParts l.program.code.now (subject_of l.program.record) l.place l.first l.count l.parts.next l.parts.names
    × (l.parts.next ≤ l.first + 6 * l.count)
    × (l.parts.names ≤ l.count)
