use Rattle.std.proofs.Common.{◌≡◌, ◌∙◌, ap, sym, true, Option}
use Rattle.pads_value.specs.declared.cause.Cause.{Cause}
use Rattle.pads_calc.specs.Leaves.{at_end}
use Rattle.pads_image.specs.States as states
use Rattle.pads_image.specs.Steps.{Goes}
use Rattle.pads_machine.specs.Shown.{has_own, shown}
use Rattle.pads_machine.proofs.Endings.{edge-ends}
use Rattle.pads_machine.proofs.Tops.{below_top, nodes-are, top_shown}
use Rattle.pads_machine.proofs.state.State.edge.Goals as goal

pub returns-then-is_end-clause-edge : goal.returns-then-is_end-clause-edge
returns-then-is_end-clause-edge c =
    let m = c.args.self.now in
    let s = shown m in
    let n = c.node.result.now in
    let over : at_end c.args.from.now.bytes.now m.last.place ≡ true = sym c.is_end.ensures.end ∙ c.if-is_end.true in
    edge-ends c.args.to s (top_shown m n) (below_top m n) (nodes-are m n c.node.ensures.node) c.args.from.now.bytes.now over
    ∙ ap (λ (own : Option Cause). Goes (record s { at_ = c.args.to; nodes = has_own own s.nodes })) (sym c.short_of-own.ensures.cause)
    ∙ ap (λ (t : states.State). Goes (record t { at_ = c.args.to })) (sym c.own.ensures.own)
