use Rattle.law_descriptions.proofs.Sorted.{well-sorted}
use Rattle.law_descriptions.proofs.accepted.accepted_descriptions_are_sorted.Goals as goal

pub returns : goal.returns
returns c = record { sorted = well-sorted }
