use Rattle.law_descriptions.proofs.SortsAre.{tree-sorts}
use Rattle.law_descriptions.proofs.AcceptedWhole.{tree-sorted}
use Rattle.law_descriptions.proofs.accepted.accepted_declarations_are_sorted.Goals as goal

pub returns : goal.returns
returns c = record { sorts = tree-sorts; sorted = tree-sorted }
