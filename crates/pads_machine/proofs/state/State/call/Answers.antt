use Rattle.std.proofs.Common.{ap}
use Rattle.pads_calc.specs.declared.reading.Reading.{Reading}
use Rattle.pads_machine.proofs.Tops.{placed-same}
use Rattle.pads_machine.proofs.state.State.call.Goals as goal

pub returns-clause-placed : goal.returns-clause-placed
returns-clause-placed c = placed-same c.args.self.now c.enter.new.self (ap (λ (r : Reading). r.place) c.enter.ensures.last) c.enter.ensures.marks
