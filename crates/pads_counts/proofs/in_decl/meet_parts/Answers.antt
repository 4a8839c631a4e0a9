use Rattle.pads_ast.specs.NameTokens.{names_in_part}
use Rattle.pads_counts.proofs.MetLaws.{one-more}
use Rattle.pads_counts.proofs.in_decl.meet_parts.Goals as goal

pub loop-part-preserved : goal.loop-part-preserved
loop-part-preserved c = one-more names_in_part c.args.parts.now c.loop-part.part-index c.part-item.result _ _ _ c.loop-part-test.true c.part-item.is c.loop-part.invariant c.in_ok-meet_part.ensures.met
