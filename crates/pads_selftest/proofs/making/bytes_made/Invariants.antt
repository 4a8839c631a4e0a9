use Rattle.std.proofs.Common.{◌≡◌, ◌≤◌, ◌*◌, length}
use Rattle.pads_selftest.specs.Records.{records_from}
use Rattle.pads_selftest.proofs.making.bytes_made.Given as goal

abbrev pub invariant-records : goal.invariant-records
invariant-records l = record { bytes : l.bytes ≡ length (records_from 0 l.number); few : l.bytes ≤ 128 * l.number }
