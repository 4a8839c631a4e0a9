use Rattle.law_descriptions.proofs.Described.{tree-described}
use Rattle.law_descriptions.proofs.accepted.accepted_declarations_are_described.Goals as goal

pub returns : goal.returns
returns c = record { described = tree-described }
