use Rattle.std.proofs.Common.{◌≡◌, ◌∙◌, ap, sym, arith, ◌+◌, length}
use Rattle.pads_calc.specs.Arrays.{is_full}
use Rattle.pads_steps.specs.Records.{subject_of}
use Rattle.pads_machine.specs.Between.{HasMore, IsEdge}
use Rattle.pads_machine.proofs.Branches.{if-some}
use Rattle.pads_machine.proofs.state.State.more_at.Goals as goal

pub returns-clause-more : goal.returns-clause-more
returns-clause-more c =
    let m = c.args.self.now in
    let program = c.args.program.now in
    let code = program.code.now in
    let subject = subject_of program.record in
    let n = c.node-node.result.now in
    let size : c.len-count.result ≡ length n.values.items = omega (arith, c.len-count.ensures, n.values.ok.0) in
    if-some c.edge_from.result (λ edge. IsEdge code subject (m.address + 1) m.last.place edge) (λ edge. HasMore code subject edge m)
    (λ edge is. record {
      node = n;
      latest = c.node-node.ensures.node;
      later = omega (arith, c.if-count-eq0.false, size);
      unfilled = ap (λ count. is_full n.size count) (sym size) ∙ sym c.is_full.ensures.full ∙ c.if-is_full.false;
      on = sym c.is_end.ensures.end ∙ c.if-is_end.false;
      goes_on = is;
    })
    c.edge_from.ensures.edge
