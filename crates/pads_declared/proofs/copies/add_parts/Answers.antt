use Rattle.std.proofs.Common.{◌∙◌, ap}
use Rattle.pads_rules.specs.Pieces.{names_after}
use Rattle.pads_declared.proofs.Lists.{names-more}
use Rattle.pads_declared.proofs.copies.add_parts.Goals as goal

pub loop-part-preserved : goal.loop-part-preserved
loop-part-preserved c =
    c.in_ok-add_part.ensures.added ∙ ap (λ names. names_after c.args.sight.now names c.part-item.result) c.loop-part.invariant
    ∙ names-more c.args.sight.now c.args.names.now c.args.parts.now c.loop-part.part-index c.part-item.result c.loop-part-test.true c.part-item.is
