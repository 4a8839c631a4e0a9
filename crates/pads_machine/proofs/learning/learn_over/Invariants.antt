use Rattle.pads_steps.specs.Records.{subject_of}
use Rattle.pads_machine.specs.Known.{IsSpare, Knows}
use Rattle.pads_machine.proofs.learning.learn_over.Given as goal

abbrev pub invariant-tries : goal.invariant-tries
invariant-tries l = record {
  knows : Knows l.program.code.now l.program.entries.now (subject_of l.program.record) l.known;
  spare : IsSpare l.program.code.now l.program.entries.now l.spare;
}
