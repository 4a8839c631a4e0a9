use Rattle.pads_code.specs.CodePage.{point}
use Rattle.pads_code.proofs.RunLemmas.{PassBelow}
use Rattle.pads_bases.specs.Classes.{has_point}
use Rattle.pads_bases.proofs.class.class_run.Given as goal

abbrev pub invariant-loop-place : goal.invariant-loop-place
invariant-loop-place l = PassBelow (point l.coding) (has_point l.class) l.bytes l.place
