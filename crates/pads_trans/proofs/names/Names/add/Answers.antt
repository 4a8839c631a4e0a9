use Rattle.pads_trans.proofs.Places.{stays-there, goes-last}
use Rattle.pads_trans.proofs.names.Names.add.Goals as goal

pub returns-in-Some : goal.returns-in-Some
returns-in-Some c = record { met = rw (← c.self.view_is) (stays-there c.self.inside.set.keys c.args.name.now c.in-Some._number c.in-Some.ensures.index) }

pub returns : goal.returns
returns c = record {
  met = rw (← c.self.view_is) (goes-last c.self.inside.set.keys c.args.name.now c.in_ok-from_slice.field-0 c.insert.new.self.keys
      c.in_default.ensures.index c.in_default.ensures.found c.in_ok-from_slice.ensures.items c.in_ok-insert.ensures.keys);
}
