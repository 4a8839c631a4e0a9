use Rattle.pads_steps.specs.Records.{subject_of}
use Rattle.pads_machine.specs.Shown.{shown}
use Rattle.pads_machine.proofs.Passing.{advances-so, asks-nothing}
use Rattle.pads_machine.proofs.state.State.one.Goals as goal

pub returns-clause-advance : goal.returns-clause-advance
returns-clause-advance c =
    let m = c.args.self.now in
    let program = c.args.program.now in
    advances-so program.code.now program.entries.now (subject_of program.record) m.room c.in_ok-next.next (shown m) (shown c.step.new.self) c.args.op.now c.requires.there c.in_ok-next.ensures.step

pub returns-clause-asks : goal.returns-clause-asks
returns-clause-asks c = asks-nothing c.in_ok-next.next _ _ _ c.in_ok-next.ensures.step
