use Rattle.std.proofs.Common.{sym, ◌∙◌}
use Rattle.pads_syntax.proofs.Stops.{last_kind}
use Rattle.pads_syntax.proofs.whole.split_end.Goals as goal

pub returns-clause-last : goal.returns-clause-last
returns-clause-last c = last_kind c.args.tokens.now _ _ c.requires.ends (sym c.as_slice.ensures.items ∙ c.in-Some.ensures.cases.0)
