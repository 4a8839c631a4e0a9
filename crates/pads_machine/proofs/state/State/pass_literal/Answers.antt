use Rattle.std.proofs.Common.{arith, ◌+◌}
use Rattle.pads_steps.specs.Records.{subject_of}
use Rattle.pads_machine.specs.Shown.{shown}
use Rattle.pads_machine.proofs.Halts.{some-below}
use Rattle.pads_machine.proofs.Passing.{literal-leads}
use Rattle.pads_machine.proofs.state.State.pass_literal.Goals as goal

pub put-requires-clause-address : goal.put-requires-clause-address
put-requires-clause-address c =
    omega (arith, some-below c.args.program.now.code.now (c.args.self.now.address + 4) _ c.requires.stands.1.4, c.requires.short)

pub returns-clause-advance : goal.returns-clause-advance
returns-clause-advance c =
    let m = c.args.self.now in
    let program = c.args.program.now in
    let stands = c.requires.stands in
    literal-leads program.code.now program.entries.now (subject_of program.record) m.room stands.0 (shown m) stands.1 c.requires.within (shown c.put.new.self) c.args.reading stands.2 stands.3
    c.in_ok-put.ensures.put
