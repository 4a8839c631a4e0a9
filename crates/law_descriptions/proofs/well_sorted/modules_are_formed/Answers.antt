use Rattle.law_descriptions.proofs.Formed.{module-formed}
use Rattle.law_descriptions.proofs.well_sorted.modules_are_formed.Goals as goal

pub returns : goal.returns
returns c = record { formed = module-formed }
