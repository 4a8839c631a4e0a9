use Rattle.pads_ast.specs.NameTokens.{names_in_arg}
use Rattle.pads_counts.proofs.MetLaws.{one-more}
use Rattle.pads_counts.proofs.in_decl.meet_args.Goals as goal

pub loop-arg-preserved : goal.loop-arg-preserved
loop-arg-preserved c = one-more names_in_arg c.args.args.now c.loop-arg.arg-index c.arg-item.result _ _ _ c.loop-arg-test.true c.arg-item.is c.loop-arg.invariant c.in_ok-meet_arg.ensures.met
