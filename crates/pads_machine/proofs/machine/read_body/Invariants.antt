use Rattle.pads_machine.proofs.machine.read_body.Given as goal

abbrev pub ghost-run : goal.ghost-run
ghost-run g a = g.steps
