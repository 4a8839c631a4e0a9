use Rattle.pads_frame.proofs.Looking.{term_found, term_open}
use Rattle.pads_frame.proofs.look.look_term.Goals as goal

pub returns-in-Some : goal.returns-in-Some
returns-in-Some c =
    rw c.mark_within.ensures (term_found c.args.terminator c.args.max c.args.passed c.args.held.now c.args.ended c.in-Some.place c.in-Some.ensures.0 c.in-Some.ensures.1)

pub returns-in-None : goal.returns-in-None
returns-in-None c = term_open c.args.terminator c.args.max c.args.passed c.args.held.now c.args.ended c.look_open.result c.in-None.ensures c.look_open.ensures
