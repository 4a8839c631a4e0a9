use Rattle.law_canonical.proofs.CleanFits.{clean-reads}
use Rattle.law_canonical.proofs.laws.clean_readings_fit.Goals as goal

pub returns : goal.returns
returns c = record {
  forth = λ subject decls depth t env i ok. (clean-reads subject decls depth t env i ok).forth;
  fits = λ subject decls depth t env i ok. (clean-reads subject decls depth t env i ok).fits;
}
