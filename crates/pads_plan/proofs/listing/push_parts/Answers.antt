use Rattle.std.proofs.Common.{◌-◌, arith}
use Rattle.pads_plan.specs.Expansion.{caller}
use Rattle.pads_plan.specs.Pending.{named_of, pending}
use Rattle.pads_plan.proofs.Pushes.{part_put}
use Rattle.pads_plan.proofs.listing.push_parts.Goals as goal

pub parts-preserved : goal.parts-preserved
parts-preserved c =
    let decls = c.args.terms.now.decls.now in
    let names = c.args.terms.now.names.now in
    let above = c.args.above.now in (
      omega (arith, c.parts.invariant.0),
      part_put names above.way.now above.step above.place.now above.number (named_of names (caller names decls above.left)) c.args.parts.now
          (c.parts.k - 1) c.parts.k c.index-parts-k.result (pending decls names c.args.stack.now.items) (pending decls names c.parts.stack.items) (pending decls names c.push_part.new.stack.items)
          (omega (arith, c.parts-test.true)) (omega (arith, c.parts.invariant.0, c.parts-test.true)) c.index-parts-k.is c.parts.invariant.1 c.in_ok-push_part.ensures.pushed,
    )
