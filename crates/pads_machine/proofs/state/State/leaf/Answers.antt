use Rattle.std.proofs.Common.{length}
use Rattle.pads_machine.proofs.state.State.leaf.Goals as goal

pub returns-in-Absorb-clause-placed : goal.returns-in-Absorb-clause-placed
returns-in-Absorb-clause-placed c = c.absorb.ensures.placed (length c.args.from.now.bytes.now) c.requires.placed

pub returns-in-Guard-clause-placed : goal.returns-in-Guard-clause-placed
returns-in-Guard-clause-placed c = c.guard.ensures.placed (length c.args.from.now.bytes.now) c.requires.placed
