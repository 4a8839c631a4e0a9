use Rattle.std.proofs.Common.{length}
use Rattle.pads_machine.proofs.state.State.step.Goals as goal

pub returns-in-Return-clause-placed : goal.returns-in-Return-clause-placed
returns-in-Return-clause-placed c = c.end.ensures.placed (length c.args.program.now.record.bytes.now) c.requires.placed

pub returns-in-NoArm-clause-placed : goal.returns-in-NoArm-clause-placed
returns-in-NoArm-clause-placed c = c.no_branch.ensures.placed (length c.args.program.now.record.bytes.now) c.requires.placed

pub returns-in_ok-switch-in-Switch-clause-placed : goal.returns-in_ok-switch-in-Switch-clause-placed
returns-in_ok-switch-in-Switch-clause-placed c = c.in_ok-switch-in-Switch.ensures.placed (length c.args.program.now.record.bytes.now) c.requires.placed

pub returns-in_ok-case-in-Arm-clause-placed : goal.returns-in_ok-case-in-Arm-clause-placed
returns-in_ok-case-in-Arm-clause-placed c = c.in_ok-case-in-Arm.ensures.placed (length c.args.program.now.record.bytes.now) c.requires.placed

pub returns-in_ok-call-in-Call-clause-placed : goal.returns-in_ok-call-in-Call-clause-placed
returns-in_ok-call-in-Call-clause-placed c = c.in_ok-call-in-Call.ensures.placed (length c.args.program.now.record.bytes.now) c.requires.placed

pub returns-in-Mark-clause-placed : goal.returns-in-Mark-clause-placed
returns-in-Mark-clause-placed c = c.note.ensures.placed (length c.args.program.now.record.bytes.now) c.requires.placed
