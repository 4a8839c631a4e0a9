use Rattle.pads_declared.proofs.NumberLemmas.{numbered-step}
use Rattle.pads_resolution.specs.Numbers.{has_name}
use Rattle.pads_resolve_expr.proofs.part_table.number_parts.Goals as goal

pub loop-number-preserved : goal.loop-number-preserved
loop-number-preserved c =
    numbered-step has_name c.args.parts.now c.loop-number.number c.index-parts-number.result c.loop-number.numbers c.number_part.new.numbers
    c.loop-number-test.true c.index-parts-number.is c.loop-number.invariant c.in_ok-number_part.ensures.numbered
