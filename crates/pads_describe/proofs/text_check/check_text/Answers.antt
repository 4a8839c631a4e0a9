use Rattle.pads_describe.proofs.text_check.check_text.Goals as goal

pub returns-clause-accepted : goal.returns-clause-accepted
returns-clause-accepted c = (c.in_ok-tree.tree, c.in_ok-checked.ensures.accepted, c.len.ensures.length)
