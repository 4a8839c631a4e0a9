use Rattle.std.proofs.Common.{◌∙◌, sym, ◌+◌, arith}
use Rattle.pads_accum.proofs.Scans.{sums_done}
use Rattle.pads_accum.proofs.merge_over.sums_over.Goals as goal

pub returns : goal.returns
returns c =
    let past = c.parts-test.false in
    let end = c.min-at-end.ensures in
    record { over = sym (sums_done (c.args.before + c.parts.at) c.parts.at c.args.sums.now c.args.later.now (omega (arith, past, end))) ∙ c.parts.invariant }
