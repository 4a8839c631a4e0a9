use Rattle.std.proofs.Common.{◌∙◌, sym, ap, take, ◌+◌}
use Rattle.pads_ast.specs.declared.types.Param.{Param}
use Rattle.pads_counts.specs.Met.{met}
use Rattle.pads_counts.proofs.MetLaws.{one-named, texts-named}
use Rattle.pads_counts.proofs.in_scope.add_params.Goals as goal

pub loop-param-preserved : goal.loop-param-preserved
loop-param-preserved c =
    one-named (λ (param : Param). param.name.text) c.args.params.now c.loop-param.param-index c.param-item.result c.args.names.now c.loop-param.names c.meet_name.new.names
    c.loop-param-test.true c.param-item.is
    (c.loop-param.invariant ∙ ap (met c.args.names.now) (texts-named (λ (param : Param). param.name) (take c.loop-param.param-index c.args.params.now)))
    c.in_ok-meet_name.ensures.met
    ∙ ap (met c.args.names.now) (sym (texts-named (λ (param : Param). param.name) (take (c.loop-param.param-index + 1) c.args.params.now)))
