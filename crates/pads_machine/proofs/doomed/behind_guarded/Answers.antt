use Rattle.pads_machine.proofs.TermsThere.{guarded-there}
use Rattle.pads_machine.proofs.doomed.behind_guarded.Goals as goal

pub returns-clause-term : goal.returns-clause-term
returns-clause-term c =
    guarded-there c.args.code.now c.args.address c.in_ok-behind.behind c.behind_guard.result c.in_ok-behind.ensures.term c.behind_guard.ensures.guarded
