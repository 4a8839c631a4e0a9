use Rattle.pads_walk.proofs.row.read_body.Goals as goal

pub returns-clause-body : goal.returns-clause-body
returns-clause-body c = rw (c.as_slice.ensures.items, c.type_of-number.ensures.number, c.in_ok-env.ensures.empty) at c.read_call.ensures.value
