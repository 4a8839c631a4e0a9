use Rattle.std.proofs.Common.{◌≡◌, ◌≤◌, ◌+◌, ◌*◌, ◌++◌}
use Rattle.arrayvec.specs.ArrayVec.{array_vec_len}
use Rattle.pads_selftest.specs.Records.{events}
use Rattle.pads_selftest.proofs.making.put_events.Given as goal

abbrev pub invariant-events : goal.invariant-events
invariant-events l = record {
  put : l.line.items ≡ l.fn.line.items ++ events l.number l.event_number;
  grown : array_vec_len l.line ≤ array_vec_len l.fn.line + 24 * l.event_number;
}
