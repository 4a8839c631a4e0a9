use Rattle.std.proofs.Common.{refl}
use Rattle.pads_machine.proofs.TermsThere.{one-there}
use Rattle.pads_machine.proofs.doomed.behind_term.Goals as goal

pub returns-then-is_one-clause-term : goal.returns-then-is_one-clause-term
returns-then-is_one-clause-term c = one-there c.args.code.now c.args.address (c.if-is_one.ensures.term refl)
