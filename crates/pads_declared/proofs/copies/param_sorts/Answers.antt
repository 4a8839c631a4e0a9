use Rattle.pads_declared.proofs.Lists.{map-taken}
use Rattle.pads_declared.proofs.copies.param_sorts.Goals as goal

pub loop-param-preserved : goal.loop-param-preserved
loop-param-preserved c =
    rw (c.in_ok-push.ensures.ok, c.loop-param.invariant, c.type_sort.ensures.sort)
    (map-taken _ _ _ _ c.loop-param-test.true c.param-item.is)
