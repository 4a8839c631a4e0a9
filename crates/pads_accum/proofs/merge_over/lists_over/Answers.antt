use Rattle.std.proofs.Common.{◌∙◌, sym, ◌+◌, arith}
use Rattle.pads_accum.specs.Feeding.{before_list}
use Rattle.pads_accum.specs.Limits.{merge_limit, sums_over}
use Rattle.pads_accum.proofs.Scans.{lists_done, lists_next, none_of}
use Rattle.pads_accum.proofs.merge_over.lists_over.Goals as goal

pub lists-preserved : goal.lists-preserved
lists-preserved c =
    let test = c.lists-test.true in
    let end = c.min-at-end.ensures in
    let none = sym (none_of c.sums_over-limit.result c.if-is_some.ensures) ∙ c.sums_over-limit.ensures.over
    ∙ (λ i. sums_over (c.before-in-lists.ensures.before i) (c.as_slice-parts.ensures.items i) (c.as_slice.ensures.items i)) in
    lists_next c.args.lists.now c.args.later.now c.lists.at c.index-lists-at.result c.index-later-at.result (merge_limit c.args.lists.now c.args.later.now)
    (omega (arith, test, end)) (omega (arith, test, end)) none c.lists.invariant

pub returns : goal.returns
returns c =
    let past = c.lists-test.false in
    let end = c.min-at-end.ensures in
    record { over = sym (lists_done (before_list c.args.lists.now c.lists.at) c.lists.at c.args.lists.now c.args.later.now (omega (arith, past, end))) ∙ c.lists.invariant }
