use Rattle.pads_accum.proofs.ChunkLaws.{summary_whole}
use Rattle.pads_accum.proofs.laws.whole_summaries_are_chunks.Goals as goal

pub returns : goal.returns
returns c = record { same = λ plan rows none. summary_whole plan rows none }
