use Rattle.std.proofs.lemmas.List.{length-reverse}
use Rattle.pads_expr.proofs.Reversed.{reverse-take}
use Rattle.pads_expr.proofs.environment.Env.cut.Goals as goal

pub returns-clause-kept : goal.returns-clause-kept
returns-clause-kept c = rw (c.truncate.ensures.items, ← c.self.view_is, length-reverse) (reverse-take c.args.len c.self.inside.bindings.items)
