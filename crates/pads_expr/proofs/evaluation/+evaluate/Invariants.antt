use Rattle.std.proofs.Common.{◌≡◌, ◌+◌, ◌*◌, max, Some, true}
use Rattle.pads_expr.specs.Ranges.{conjunction}
use Rattle.pads_expr.specs.Scopes.{pairs_of}
use Rattle.pads_expr.specs.Value.{value, at_number}
use Rattle.pads_expr.specs.Worth.{Truth, worth_or_none}
use Rattle.pads_expr.specs.declared.expr.Expr.{size-Expr}
use Rattle.pads_expr.proofs.evaluation.+evaluate.Given as goal

abbrev pub invariant-for_all-loop-step : goal.invariant-for_all-loop-step
invariant-for_all-loop-step l = worth_or_none (conjunction (at_number (value l.body) l.name (pairs_of l.scope)) l.first l.step) ≡ Some (Truth true)

abbrev pub decreases-evaluate : goal.decreases-evaluate
decreases-evaluate l = 8 * size-Expr l.e.now

abbrev pub decreases-holds : goal.decreases-holds
decreases-holds l = 8 * size-Expr l.e.now + 1

abbrev pub decreases-unary : goal.decreases-unary
decreases-unary l = 8 * size-Expr l.operand.now + 1

abbrev pub decreases-for_all : goal.decreases-for_all
decreases-for_all l = 8 * size-Expr l.body.now + 1

abbrev pub decreases-place : goal.decreases-place
decreases-place l = 8 * size-Expr l.e.now + 1

abbrev pub decreases-number_in : goal.decreases-number_in
decreases-number_in l = 8 * size-Expr l.e.now + 2

abbrev pub decreases-text_in : goal.decreases-text_in
decreases-text_in l = 8 * size-Expr l.e.now + 2

abbrev pub decreases-binary : goal.decreases-binary
decreases-binary l = 8 * max (size-Expr l.left.now) (size-Expr l.right.now) + 1

abbrev pub decreases-both : goal.decreases-both
decreases-both l = 8 * max (size-Expr l.left.now) (size-Expr l.right.now) + 2

abbrev pub decreases-either : goal.decreases-either
decreases-either l = 8 * max (size-Expr l.left.now) (size-Expr l.right.now) + 2

abbrev pub decreases-at_once : goal.decreases-at_once
decreases-at_once l = 8 * max (size-Expr l.left.now) (size-Expr l.right.now) + 3

abbrev pub decreases-condition : goal.decreases-condition
decreases-condition l = 8 * max (size-Expr l.left.now) (size-Expr l.right.now) + 4

abbrev pub decreases-operation : goal.decreases-operation
decreases-operation l = 8 * max (size-Expr l.left.now) (size-Expr l.right.now) + 4

abbrev pub decreases-element : goal.decreases-element
decreases-element l = 8 * max (size-Expr l.whole.now) (size-Expr l.index.now) + 1

abbrev pub decreases-over_range : goal.decreases-over_range
decreases-over_range l = 8 * max (size-Expr l.first.now) (max (size-Expr l.last.now) (size-Expr l.body.now)) + 2
