use Rattle.std.proofs.Common.{subst}
use Rattle.pads_declared.specs.Numbered.{IsNumbered}
use Rattle.pads_declared.proofs.NumberLemmas.{pairs-step}
use Rattle.pads_resolution.specs.Numbers.{has_name}
use Rattle.pads_resolve_expr.proofs.PartLemmas.{Keeps}
use Rattle.pads_resolve_expr.proofs.part_table.PartTable.new.Goals as goal

pub loop-decl-preserved : goal.loop-decl-preserved
loop-decl-preserved c =
    rw (c.in_ok-push.ensures.ok)
    (pairs-step Keeps c.args.decls.now c.loop-decl.decl-index c.decl-item.result c.loop-decl.numbers c.in_ok-number_parts.field-0 c.loop-decl-test.true c.decl-item.is c.loop-decl.invariant
    (subst (λ parts. IsNumbered has_name parts c.in_ok-number_parts.field-0) c.parts_in.ensures.parts c.in_ok-number_parts.ensures.numbered))
