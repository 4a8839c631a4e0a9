use Rattle.std.proofs.Common.{◌≡◌, ◌∙◌, sym, arith, ◌+◌, true, false, length}
use Rattle.std.proofs.lemmas.Grind.{common_steps}
use Rattle.std.specs.Option.{option_copied}
use Rattle.pads_image.specs.Heights.{needs_over}
use Rattle.pads_image.specs.Validity.{arities_of}
use Rattle.pads_image.specs.Variables.{is_return}
use Rattle.pads_image.proofs.Needs.{needs-end, needs-on, needs-return}
use Rattle.pads_image.proofs.need.needs_over.Goals as goal
use Rattle.pads_image.proofs.need.needs_over.Goals.{then-is_return+in_ok-push, else-is_return}

pub loop-op-preserved : goal.loop-op-preserved
loop-op-preserved c =
    let deeper = option_copied c.args.deeper in
    let arities = arities_of c.args.entries.now in
    let code = c.args.code.now in
    let whole = needs_over deeper code arities in
    elim c.if-is_return.branch [
      | then-is_return+in_ok-push w ↦
          let ends : is_return c.op-item.result ≡ true = sym c.is_return.ensures.end ∙ w.if-is_return.true in
          let step = needs-return deeper arities code whole c.loop-op.needs c.loop-op.op-index c.loop-op.number c.loop-op.height c.loop-op.most c.op-item.result
          c.loop-op-test.true c.op-item.is c.loop-op.invariant.0 ends in
          (grind (arith, common_steps, step), grind (arith, common_steps), omega arith)
      | else-is_return w ↦
          let on : is_return c.op-item.result ≡ false = sym c.is_return.ensures.end ∙ w.if-is_return.false in
          let step = needs-on deeper arities code whole c.loop-op.needs c.loop-op.op-index c.loop-op.number c.loop-op.height c.loop-op.most c.op-item.result
          c.loop-op-test.true c.op-item.is c.loop-op.invariant.0 on in
          (grind (arith, common_steps, step), grind (arith, common_steps), omega arith)
    ]

pub returns : goal.returns
returns c =
    let deeper = option_copied c.args.deeper in
    let arities = arities_of c.args.entries.now in
    let code = c.args.code.now in
    let over : c.loop-op.op-index ≡ length code = omega arith in
    record {
      needs = needs-end deeper arities code (needs_over deeper code arities) c.loop-op.needs (c.loop-op.number + 1) c.loop-op.height c.loop-op.most
          (rw over at c.loop-op.invariant.0);
    }
