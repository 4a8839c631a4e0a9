use Rattle.std.proofs.Common.{sym, []}
use Rattle.pads_calc.specs.Calculus.{caller}
use Rattle.pads_calc.proofs.Rolls.{read-Call}
use Rattle.pads_calc.specs.Rows.{deepest, subject_of_cut}
use Rattle.law_calculus.proofs.Evaluated.{evaluated-never_ill}
use Rattle.law_calculus.proofs.SortedRows.{row-never_ill}
use Rattle.law_calculus.proofs.sort_laws.sorted_modules_evaluate_nothing_ill_sorted.Goals as goal

pub returns : goal.returns
returns c = record {
  term = λ subject decls sorts scope now e env are is_sorted has evaluated.
      evaluated-never_ill sorts decls are subject scope now e env is_sorted has evaluated;
  record_type = λ subject decls number e env sorted evaluated.
      row-never_ill sorted.0 decls sorted.1 subject deepest number 0 e env evaluated;
  record_reading = λ decls scan number cut. sym (read-Call (subject_of_cut scan cut) (caller (subject_of_cut scan cut) decls deepest) number [] [] 0);
}
