use Rattle.pads_declared.proofs.Lists.{map-taken}
use Rattle.pads_declared.proofs.copies.label_names.Goals as goal

pub loop-label-preserved : goal.loop-label-preserved
loop-label-preserved c =
    rw (c.in_ok-push.ensures.ok, c.loop-label.invariant, c.in_ok-text.ensures.same, c.as_slice.ensures.items)
    (map-taken _ _ _ _ c.loop-label-test.true c.label-item.is)
