use Rattle.law_descriptions.proofs.Typed.{lawful}
use Rattle.law_descriptions.proofs.accepted.accepted_expressions_are_sorted.Goals as goal

pub returns : goal.returns
returns c = record {
  judged = λ written env decls sorts e names later scope describes sees spelled none. (lawful written env decls sorts describes e names later scope sees spelled none).0;
  sorted = λ written env decls sorts e names later scope describes sees spelled none. (lawful written env decls sorts describes e names later scope sees spelled none).1;
}
