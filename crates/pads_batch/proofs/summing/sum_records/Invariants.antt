use Rattle.std.proofs.Common.{◌≡◌, ◌+◌, List, take, map}
use Rattle.pads_value.specs.Cuts.{cut_of_kept}
use Rattle.pads_value.specs.declared.row.Row.{Row}
use Rattle.pads_batch.specs.Reading.{AreRows, IsRead}
use Rattle.pads_batch.specs.Summing.{IsSum}
use Rattle.pads_batch.proofs.summing.sum_records.Given as goal

abbrev pub invariant-frames : goal.invariant-frames
invariant-frames g l = record {
  counted : l.number ≡ l.first_no + l.kept-index;
  roomy : l.machine ≡ l.image.need;
  summed : (rows : List Row) × AreRows (IsRead l.image) l.first_no (map cut_of_kept (take l.kept-index l.frames)) rows × IsSum (g.S.Blanks.plan l.summary) rows l.chunk;
}
