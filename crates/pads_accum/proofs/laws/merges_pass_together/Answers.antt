use Rattle.std.proofs.Common.{None, Some}
use Rattle.pads_sums.specs.Sums.{most}
use Rattle.pads_accum.proofs.ChunkLaws.{merging_passes, passes_alike}
use Rattle.pads_accum.proofs.laws.merges_pass_together.Goals as goal

pub returns : goal.returns
returns c = record {
  summary = λ plan rows more. merging_passes plan rows more (Some most);
  chunk = λ plan rows more. merging_passes plan rows more None;
  alike = λ plan rows. passes_alike plan rows;
}
