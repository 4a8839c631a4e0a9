use Rattle.std.proofs.Common.{◌≡◌, ◌-◌, ◌≤◌, ◌++◌, true, length, map, drop}
use Rattle.pads_module.specs.Modules.{Contents}
use Rattle.pads_frame.specs.Cutting.{cuts, records}
use Rattle.pads_print.specs.ReadBack.{row_in}
use Rattle.pads_print.specs.Reads.{Reads}
use Rattle.pads_print.proofs.reading.Reader.rows.Given as goal

abbrev pub decreases-frames : goal.decreases-frames
decreases-frames l = length l.input - l.at

abbrev pub invariant-frames : goal.invariant-frames
invariant-frames l = record {
  room : l.machine ≡ l.initial.machine;
  within : l.at ≤ length l.input;
  rest : (m : Contents) → Reads l.self.image.now m → map (row_in m l.self.record_no) (records l.self.discipline l.self.max l.input)
      ≡ l.rows ++ map (row_in m l.self.record_no) (cuts l.self.discipline l.self.max true l.at 0 (drop l.at l.input));
}
