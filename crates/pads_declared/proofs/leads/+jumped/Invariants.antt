use Rattle.pads_declared.proofs.leads.+jumped.Given as goal

abbrev pub decreases-jumped : goal.decreases-jumped
decreases-jumped l = l.steps
