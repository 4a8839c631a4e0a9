use Rattle.std.proofs.Common.{◌∙◌, sym, ap, take, ◌+◌}
use Rattle.pads_ast.specs.declared.decl.Part.{Part}
use Rattle.pads_rules.specs.DeclRules.{texts}
use Rattle.pads_ast.specs.Trees.{part_names}
use Rattle.pads_counts.specs.Met.{met}
use Rattle.pads_counts.proofs.MetLaws.{one-more, texts-gathered}
use Rattle.pads_counts.proofs.in_scope.add_parts.Goals as goal

pub loop-part-preserved : goal.loop-part-preserved
loop-part-preserved c =
    one-more (λ (p : Part). texts (part_names p)) c.args.parts.now c.loop-part.part-index c.part-item.result c.args.names.now c.loop-part.names c.add_part.new.names
    c.loop-part-test.true c.part-item.is
    (c.loop-part.invariant ∙ ap (met c.args.names.now) (texts-gathered part_names (take c.loop-part.part-index c.args.parts.now)))
    c.in_ok-add_part.ensures.met
    ∙ ap (met c.args.names.now) (sym (texts-gathered part_names (take (c.loop-part.part-index + 1) c.args.parts.now)))
