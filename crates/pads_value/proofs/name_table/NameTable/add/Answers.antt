use Rattle.pads_value.proofs.NameLemmas.{numbered-there, numbered-last}
use Rattle.pads_value.proofs.name_table.NameTable.add.Goals as goal

pub returns-in-Some-clause-number : goal.returns-in-Some-clause-number
returns-in-Some-clause-number c =
    rw (← c.self.view_is) (numbered-there c.self.inside.names.keys c.args.name.now c.in-Some.number c.in-Some.ensures.index)

pub returns-clause-number : goal.returns-clause-number
returns-clause-number c =
    rw (← c.self.view_is, c.len-number.ensures.len)
    (numbered-last c.self.inside.names.keys c.args.name.now c.in_ok-from_slice.field-0 c.insert.new.self.keys
    c.in_default.ensures.index c.in_default.ensures.found
    c.in_ok-from_slice.ensures.items c.in_ok-insert.ensures.keys)
