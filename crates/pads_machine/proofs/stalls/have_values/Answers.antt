use Rattle.std.proofs.Common.{refl, reverse, arith, ◌<◌, length}
use Rattle.pads_idle.proofs.Valued.{one-more}
use Rattle.pads_machine.proofs.stalls.have_values.Goals as goal

pub arguments-preserved : goal.arguments-preserved
arguments-preserved c = λ more.
    let some : 0 < length c.arguments.rest.now = omega (arith, c.in-len1-up.len_at_least) in
    c.arguments.invariant (one-more c.arguments.rest.now c.e-item.result (reverse c.args.bindings.now) some c.e-item.is (c.if-not-has_value.ensures.value refl) more)
