use Rattle.pads_trans.proofs.Places.{number-there, number-past}
use Rattle.pads_trans.proofs.names.Names.number.Goals as goal

pub returns-in-Some : goal.returns-in-Some
returns-in-Some c = record { number = rw (← c.self.view_is) (number-there c.self.inside.set.keys c.args.name.now c.in-Some.number c.in-Some.ensures.index) }

pub returns-in-None : goal.returns-in-None
returns-in-None c = record { number = rw (← c.self.view_is, c.len.ensures.len) (number-past c.self.inside.set.keys c.args.name.now c.in-None.ensures.index) }
