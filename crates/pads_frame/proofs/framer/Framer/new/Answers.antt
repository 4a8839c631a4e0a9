use Rattle.pads_frame.specs.Cutters.{state_of}
use Rattle.pads_frame.proofs.Feeding.{owed_new}
use Rattle.pads_frame.proofs.framer.Framer.new.Goals as goal

pub returns-clause-owes : goal.returns-clause-owes
returns-clause-owes c = owed_new c.args.discipline c.args.max c.args.start (state_of c.in_ok-cutter.cutter) c.in_ok-cutter.ensures.state
