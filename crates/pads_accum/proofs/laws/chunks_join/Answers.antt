use Rattle.std.proofs.Common.{None}
use Rattle.pads_accum.proofs.ChunkLaws.{summed_both}
use Rattle.pads_accum.proofs.laws.chunks_join.Goals as goal

pub returns : goal.returns
returns c = record { merged = λ plan rows more none. summed_both None plan rows more none }
