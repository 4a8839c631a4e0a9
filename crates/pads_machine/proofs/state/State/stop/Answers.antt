use Rattle.std.proofs.Common.{◌≡◌, ◌∙◌, ap, sym, arith, Option, List, drop, map, reverse}
use Rattle.pads_value.specs.declared.cause.Cause.{Cause}
use Rattle.pads_calc.specs.Arrays.{below_size}
use Rattle.pads_image.specs.States as states
use Rattle.pads_image.specs.Steps.{Goes, back_to}
use Rattle.pads_machine.specs.declared.node.Mark.{Mark}
use Rattle.pads_machine.specs.Shown.{has_own, mark_shown, shown}
use Rattle.pads_machine.proofs.Endings.{stop-ends}
use Rattle.pads_machine.proofs.Tops.{below_top, marks-are, nodes-are, rest-there, top_shown}
use Rattle.pads_machine.proofs.state.State.stop.Goals as goal

pub returns-then-is_ok-clause-stop : goal.returns-then-is_ok-clause-stop
returns-then-is_ok-clause-stop c =
    let m = c.args.self.now in
    let s = shown m in
    let n = c.node.result.now in
    let mark = c.mark-mark.result in
    let left = reverse c.pop.new.self.items in
    let rest : left ≡ drop 1 (reverse m.marks.items) =
    rest-there m.marks.items c.pop.new.self.items _ mark c.mark-mark.ensures.mark (omega (arith, m.marks.ok.0)) c.pop.ensures.rest in
    let to : Option Cause → List Mark → states.State =
    λ own marks. record s { at_ = c.args.to; last = back_to mark.place s.last; nodes = has_own own s.nodes; marks = map mark_shown marks } in
    stop-ends c.args.to s (top_shown m n) (below_top m n) (nodes-are m n c.node.ensures.node) (mark_shown mark) (map mark_shown (drop 1 (reverse m.marks.items)))
    (marks-are m mark c.mark-mark.ensures.mark) (sym c.if-is_ok.ensures.ok)
    ∙ ap (λ (marks : List Mark). Goes (to (below_size n.size) marks)) (sym rest)
    ∙ ap (λ (own : Option Cause). Goes (to own left)) (sym c.short_of-own.ensures.cause)
    ∙ ap (λ (t : states.State). Goes (record t { at_ = c.args.to })) (sym c.own.ensures.own)
