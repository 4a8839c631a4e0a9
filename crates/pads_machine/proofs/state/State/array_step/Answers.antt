use Rattle.std.proofs.Common.{length}
use Rattle.pads_machine.proofs.state.State.array_step.Goals as goal

pub returns-in-Size-clause-placed : goal.returns-in-Size-clause-placed
returns-in-Size-clause-placed c = c.array.ensures.placed (length c.args.from.now.bytes.now) c.requires.placed

pub returns-in-Full-clause-placed : goal.returns-in-Full-clause-placed
returns-in-Full-clause-placed c = c.full.ensures.placed (length c.args.from.now.bytes.now) c.requires.placed

pub returns-in-Stop-clause-placed : goal.returns-in-Stop-clause-placed
returns-in-Stop-clause-placed c = c.stop.ensures.placed (length c.args.from.now.bytes.now) c.requires.placed

pub returns-in-Edge-clause-placed : goal.returns-in-Edge-clause-placed
returns-in-Edge-clause-placed c = c.edge.ensures.placed (length c.args.from.now.bytes.now) c.requires.placed

pub returns-in-Turn-clause-placed : goal.returns-in-Turn-clause-placed
returns-in-Turn-clause-placed c = c.turn.ensures.placed (length c.args.from.now.bytes.now) c.requires.placed

pub returns-in-Sep-clause-placed : goal.returns-in-Sep-clause-placed
returns-in-Sep-clause-placed c = c.separate.ensures.placed (length c.args.from.now.bytes.now) c.requires.placed

pub returns-in_ok-element-in-Elem-clause-placed : goal.returns-in_ok-element-in-Elem-clause-placed
returns-in_ok-element-in-Elem-clause-placed c = c.in_ok-element-in-Elem.ensures.placed (length c.args.from.now.bytes.now) c.requires.placed

pub returns-in-Shut-clause-placed : goal.returns-in-Shut-clause-placed
returns-in-Shut-clause-placed c = c.shut.ensures.placed (length c.args.from.now.bytes.now) c.requires.placed
