use Rattle.law_descriptions.proofs.SortedTerms.{module-sorted}
use Rattle.law_descriptions.proofs.well_sorted.modules_are_sorted.Goals as goal

pub returns : goal.returns
returns c = record { sorted = module-sorted }
