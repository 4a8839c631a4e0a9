use Rattle.law_calculus.proofs.ByWorths.{sorted-term, sorted-record}
use Rattle.law_calculus.proofs.evaluation_laws.sorted_readings_need_nothing_ill_sorted.Goals as goal

pub returns : goal.returns
returns c = record {
  term = λ subject decls sorts scope now worths agrees are is_sorted has. sorted-term worths agrees subject decls sorts scope now are is_sorted has;
  record_reading = λ decls scan number cut worths agrees sorted. sorted-record worths agrees decls scan number cut sorted;
}
