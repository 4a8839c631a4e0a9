use Rattle.std.proofs.Common.{◌≡◌, ◌+◌, take, map}
use Rattle.pads_value.specs.Cuts.{cut_of_kept}
use Rattle.pads_batch.specs.Reading.{AreRows, IsRead}
use Rattle.pads_batch.proofs.reading.read_records.Given as goal

abbrev pub invariant-frames : goal.invariant-frames
invariant-frames g l = record {
  counted : l.number ≡ l.first_no + l.kept-index;
  roomy : l.machine ≡ l.image.need;
  rows : AreRows (IsRead l.image) l.first_no (map cut_of_kept (take l.kept-index l.frames)) l.rows;
}
