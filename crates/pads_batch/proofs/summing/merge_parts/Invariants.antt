use Rattle.pads_batch.proofs.Merging.{MergedSoFar}
use Rattle.pads_batch.proofs.summing.merge_parts.Given as goal

-- the parts so far are merged
abbrev pub invariant-parts : goal.invariant-parts
invariant-parts l = MergedSoFar l.fn.parts l.part-iterator.rest.items l.fn.blank l.whole
