use Rattle.law_calculus.proofs.ModuleSorts.{module-sorts, sorts-unique}
use Rattle.law_calculus.proofs.sort_laws.modules_have_sorts.Goals as goal

pub returns : goal.returns
returns c = record { there = module-sorts; unique = sorts-unique }
