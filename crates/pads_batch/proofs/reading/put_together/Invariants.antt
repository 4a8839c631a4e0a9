use Rattle.pads_batch.proofs.Wholes.{IsFront}
use Rattle.pads_batch.proofs.reading.put_together.Given as goal

abbrev pub invariant-parts : goal.invariant-parts
invariant-parts g l = IsFront l.fn.parts l.part-iterator.rest.items l.whole.items
