use Rattle.law_calculus.proofs.SortedTerms.{meaning-has}
use Rattle.law_calculus.proofs.SortedRows.{row-has}
use Rattle.law_calculus.proofs.sort_laws.readings_have_their_sorts.Goals as goal

pub returns : goal.returns
returns c = record {
  reading = λ subject decls declared depth t env i are. meaning-has declared decls are subject depth t env i;
  row = λ decls declared shape scan number cut are. row-has declared decls are shape scan number cut;
}
