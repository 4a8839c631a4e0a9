use Rattle.pads_ast.specs.NameTokens.{names_in_param}
use Rattle.pads_counts.proofs.MetLaws.{one-more}
use Rattle.pads_counts.proofs.in_decl.meet_params.Goals as goal

pub loop-param-preserved : goal.loop-param-preserved
loop-param-preserved c = one-more names_in_param c.args.params.now c.loop-param.param-index c.param-item.result _ _ _ c.loop-param-test.true c.param-item.is c.loop-param.invariant c.in_ok-meet_param.ensures.met
