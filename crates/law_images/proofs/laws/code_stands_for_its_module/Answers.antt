use Rattle.law_images.proofs.Halting.{stands-for}
use Rattle.law_images.proofs.laws.code_stands_for_its_module.Goals as goal

pub returns : goal.returns
returns c = record { stands = λ decls shape shaped. stands-for decls shape shaped }
