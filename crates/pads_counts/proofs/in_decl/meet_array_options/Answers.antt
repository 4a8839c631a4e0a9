use Rattle.pads_ast.specs.NameTokens.{names_in_array_option}
use Rattle.pads_counts.proofs.MetLaws.{one-more}
use Rattle.pads_counts.proofs.in_decl.meet_array_options.Goals as goal

pub loop-option-preserved : goal.loop-option-preserved
loop-option-preserved c = one-more names_in_array_option c.args.options.now c.loop-option.option-index c.option-item.result _ _ _ c.loop-option-test.true c.option-item.is c.loop-option.invariant c.in_ok-meet_array_option.ensures.met
