use Rattle.pads_describe.proofs.text_check.checked.Goals as goal

pub returns-in-Err-Fault-clause-refused : goal.returns-in-Err-Fault-clause-refused
returns-in-Err-Fault-clause-refused c =
    record { tree = c.args.tree.now; has_tree = c.requires.tree; first = rw c.in-Err-Fault.field-0-is at c.in-Err-Fault.ensures.refused }
