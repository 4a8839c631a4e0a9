use Rattle.std.proofs.Common.{Some}
use Rattle.pads_sums.specs.Sums.{most}
use Rattle.pads_accum.proofs.ChunkLaws.{summed_both}
use Rattle.pads_accum.proofs.laws.summaries_take_chunks.Goals as goal

pub returns : goal.returns
returns c = record { merged = λ plan rows more none. summed_both (Some most) plan rows more none }
