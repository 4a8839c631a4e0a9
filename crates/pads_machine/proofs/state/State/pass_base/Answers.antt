use Rattle.pads_steps.specs.Records.{subject_of}
use Rattle.pads_machine.specs.Shown.{shown}
use Rattle.pads_machine.proofs.Passing.{base-leads}
use Rattle.pads_machine.proofs.state.State.pass_base.Goals as goal

pub returns-clause-advance : goal.returns-clause-advance
returns-clause-advance c =
    let m = c.args.self.now in
    let s = shown m in
    let program = c.args.program.now in
    let subject = subject_of program.record in
    let base = c.args.base.now in
    let args = c.args.args.now in
    let r = c.in_ok-reading.reading in
    base-leads program.code.now program.entries.now subject m.room s base args c.args.name (shown c.put.new.self) r c.requires.there c.requires.part c.requires.within
    c.in_ok-reading.ensures.base c.in_ok-put.ensures.put
