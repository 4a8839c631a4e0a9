use Rattle.std.proofs.Common.{◌≡◌}
use Rattle.pads_rules.specs.Faults.{lesser}
use Rattle.pads_violations.specs.InDescription.{decls_told, names_up_to}
use Rattle.pads_violations.proofs.DescriptionLaws.{told_from}
use Rattle.pads_violations.proofs.description.in_decls.Given as goal

abbrev pub invariant-loop-number : goal.invariant-loop-number
invariant-loop-number l = record {
  told : lesser l.best (told_from l.decls l.number) ≡ decls_told l.decls;
  names : l.names ≡ names_up_to l.decls l.number;
}
