use Rattle.std.proofs.Common.{sym, ◌+◌}
use Rattle.pads_accum.proofs.MergeFitting.{fit_grown, lists_fit_none, lists_none}
use Rattle.pads_accum.proofs.merge_over.merged_bound.Goals as goal

pub returns-then-both-le-MOST-clause-fits : goal.returns-then-both-le-MOST-clause-fits
returns-then-both-le-MOST-clause-fits c =
    fit_grown c.args.bound c.args.later_bound c.args.lists.now c.args.later.now c.requires.within c.requires.later_within

pub returns-then-both-le-MOST-clause-none : goal.returns-then-both-le-MOST-clause-none
returns-then-both-le-MOST-clause-none c =
    lists_none (c.args.bound + c.args.later_bound) c.if-both-le-MOST.true 0 c.args.lists.now c.args.later.now
    (fit_grown c.args.bound c.args.later_bound c.args.lists.now c.args.later.now c.requires.within c.requires.later_within)

pub returns-in-None-clause-fits : goal.returns-in-None-clause-fits
returns-in-None-clause-fits c = lists_fit_none 0 c.args.lists.now c.args.later.now (sym c.in-None.ensures.over)
