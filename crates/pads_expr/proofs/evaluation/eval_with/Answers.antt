use Rattle.pads_expr.proofs.Bindings.{pairs_of-Lent, pairs_of-Base}
use Rattle.pads_expr.proofs.evaluation.eval_with.Goals as goal

pub returns : goal.returns
returns c = record { value = rw (pairs_of-Lent, pairs_of-Base) at c.evaluate.ensures.value }
