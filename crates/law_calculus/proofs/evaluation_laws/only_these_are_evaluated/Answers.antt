use Rattle.law_calculus.proofs.ByWorths.{evaluated-alone, own-is}
use Rattle.law_calculus.proofs.evaluation_laws.only_these_are_evaluated.Goals as goal

pub returns : goal.returns
returns c = record {
  evaluated = λ subject decls now worths agrees. evaluated-alone worths subject decls now agrees;
  own = own-is;
}
