use Rattle.std.proofs.Common.{◌∙◌}
use Rattle.pads_violations.proofs.WalkLemmas.{labels-step, labels-end}
use Rattle.pads_violations.proofs.bodies.labels.Goals as goal
use Rattle.pads_piece_rules.proofs.Steps.{none-lesser}

pub loop-one-init : goal.loop-one-init
loop-one-init c = none-lesser _

pub loop-one-preserved : goal.loop-one-preserved
loop-one-preserved c =
    rw (c.lesser-best.ensures.least, c.label.ensures.told)
    (labels-step c.args.labels.now c.loop-one.one-index c.one-item.result c.loop-one.best c.loop-one-test.true c.one-item.is ∙ c.loop-one.invariant)

pub returns : goal.returns
returns c = record { told = labels-end c.args.labels.now c.loop-one.one-index c.loop-one.best _ c.loop-one-test.false c.loop-one.invariant }
