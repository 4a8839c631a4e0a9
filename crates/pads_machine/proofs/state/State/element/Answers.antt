use Rattle.std.proofs.Common.{◌≡◌, ◌∙◌, ap, sym, arith, ◌+◌, Bool, nat_eq, Some, None, List, ◌∷◌, drop, length, map, reverse}
use Rattle.pads_calc.specs.Leaves.{unit_of}
use Rattle.pads_image.specs.States as states
use Rattle.pads_image.specs.Steps.{Goes, back_to, part_step, with_reading}
use Rattle.pads_machine.specs.declared.node.Mark.{Mark}
use Rattle.pads_machine.specs.Ran.{undone_by}
use Rattle.pads_machine.specs.Shown.{has_own, mark_shown, shown}
use Rattle.pads_machine.proofs.Endings.{elem-kept, elem-undone}
use Rattle.pads_machine.proofs.Tops.{below_top, marks-are, nodes-are, nodes-first, rest-there, top_shown}
use Rattle.pads_machine.proofs.state.State.element.Goals as goal

pub returns-in-Some-clause-element : goal.returns-in-Some-clause-element
returns-in-Some-clause-element c =
    let m = c.args.self.now in
    let s = shown m in
    let n = c.node.result.now in
    let mark = c.mark-mark.result in
    let left = reverse c.pop.new.self.items in
    let rest : left ≡ drop 1 (reverse m.marks.items) =
    rest-there m.marks.items c.pop.new.self.items _ mark c.mark-mark.ensures.mark (omega (arith, m.marks.ok.0)) c.pop.ensures.rest in
    let size : c.len-is_first.result ≡ length n.values.items = omega (arith, c.len-is_first.ensures, n.values.ok.0) in
    let first : Bool = nat_eq c.len-is_first.result 0 in
    let by : undone_by c.args.origin s.last first mark.place ≡ Some c.in-Some.cause = sym c.undone.ensures.undone ∙ c.in-Some.is in
    elem-undone c.args.to s (top_shown m n) (below_top m n) (nodes-are m n c.node.ensures.node) first (nodes-first m n first (ap (λ k. nat_eq k 0) (sym size)))
    c.args.origin c.args.again (mark_shown mark) (map mark_shown (drop 1 (reverse m.marks.items))) (marks-are m mark c.mark-mark.ensures.mark) c.in-Some.cause by
    ∙ ap (λ (marks : List Mark). Goes (record s { at_ = c.args.to; last = back_to mark.place s.last; nodes = has_own (Some c.in-Some.cause) s.nodes; marks = map mark_shown marks })) (sym rest)
    ∙ ap (λ (t : states.State). Goes t) (sym c.undo.ensures.undo)

pub returns-clause-element : goal.returns-clause-element
returns-clause-element c =
    let m = c.args.self.now in
    let s = shown m in
    let n = c.node.result.now in
    let mark = c.mark-mark.result in
    let left = reverse c.pop.new.self.items in
    let rest : left ≡ drop 1 (reverse m.marks.items) =
    rest-there m.marks.items c.pop.new.self.items _ mark c.mark-mark.ensures.mark (omega (arith, m.marks.ok.0)) c.pop.ensures.rest in
    let size : c.len-is_first.result ≡ length n.values.items = omega (arith, c.len-is_first.ensures, n.values.ok.0) in
    let first : Bool = nat_eq c.len-is_first.result 0 in
    let by : undone_by c.args.origin s.last first mark.place ≡ None = sym c.undone.ensures.undone ∙ c.in_default.is in
    let popped : states.State = record s { marks = map mark_shown left } in
    let kept : states.State = record popped { at_ = s.at_ + 1; last = unit_of c.args.origin s.last.place; nodes = with_reading (top_shown m n) s.last ∷ below_top m n } in
    let parted : Goes kept ≡ Goes (shown c.part.new.self) =
    sym (ap (λ (nodes : List states.Node). part_step c.args.origin None popped nodes) (nodes-are m n c.node.ensures.node)) ∙ c.in_ok-part.ensures.part in
    let same : kept ≡ shown c.part.new.self = cc in
    elem-kept c.args.to s (top_shown m n) (below_top m n) (nodes-are m n c.node.ensures.node) first (nodes-first m n first (ap (λ k. nat_eq k 0) (sym size)))
    c.args.origin c.args.again (mark_shown mark) (map mark_shown (drop 1 (reverse m.marks.items))) (marks-are m mark c.mark-mark.ensures.mark) by
    ∙ ap (λ (marks : List Mark). Goes (record kept { at_ = c.args.again; marks = map mark_shown marks })) (sym rest)
    ∙ ap (λ (t : states.State). Goes (record t { at_ = c.args.again })) same
