use Rattle.law_descriptions.proofs.PlainTerms.{module-plain}
use Rattle.law_descriptions.proofs.well_sorted.modules_are_plain.Goals as goal

pub returns : goal.returns
returns c = record { plain = module-plain }
