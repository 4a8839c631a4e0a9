use Rattle.std.proofs.Common.{sym, subst, Some}
use Rattle.pads_expr.specs.declared.expr.Expr.{Expr}
use Rattle.pads_idle.specs.Idle.{IsSize}
use Rattle.pads_idle.proofs.Idling.{number-size}
use Rattle.pads_idle.proofs.links.is_size.Goals as goal

pub returns-in-Num : goal.returns-in-Num
returns-in-Num c = record {
  size = λ is. subst (λ (e : Expr). IsSize (Some e)) (sym c.in-Num.is) (number-size c.in-Num.count (c.is_count.ensures.count is));
}
