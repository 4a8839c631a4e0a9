use Rattle.std.proofs.Common.{◌∙◌, arith, ◌<◌, length}
use Rattle.pads_machine.proofs.Taking.{taking-next}
use Rattle.pads_machine.proofs.bindings.take_back.Goals as goal

pub back-preserved : goal.back-preserved
back-preserved c =
    let more : c.args.base < length c.back.bindings.items = omega (arith, c.back-test.true, c.len.ensures, c.back.bindings.ok.0) in
    record {
      taking = taking-next c.args.base c.args.bindings.now.items c.args.homes.now.items c.args.values.now.items c.back.bindings.items c.back.homes.items c.back.values.items
          c.back.invariant.taking c.take_one.new.bindings.items c.take_one.new.homes.items c.take_one.new.values.items more c.take_one.ensures.one;
      bindings_kept = c.take_one.ensures.bindings_kept ∙ c.back.invariant.bindings_kept;
      homes_kept = c.take_one.ensures.homes_kept ∙ c.back.invariant.homes_kept;
    }
