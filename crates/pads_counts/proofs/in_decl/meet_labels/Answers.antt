use Rattle.pads_ast.specs.declared.decl.Label.{Label}
use Rattle.pads_counts.proofs.MetLaws.{one-named}
use Rattle.pads_counts.proofs.in_decl.meet_labels.Goals as goal

pub loop-label-preserved : goal.loop-label-preserved
loop-label-preserved c =
    one-named (λ (label : Label). label.name.text) c.args.labels.now c.loop-label.label-index c.label-item.result _ _ _ c.loop-label-test.true c.label-item.is c.loop-label.invariant
    c.in_ok-meet_name.ensures.met
