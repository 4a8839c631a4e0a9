use Rattle.std.proofs.Common.{◌≡◌, ◌∙◌, ap, sym, arith, ◌+◌, true, false, nat_eq, List, length, map, reverse}
use Rattle.std.proofs.lemmas.Bool.{ne_eqb}
use Rattle.pads_image.specs.Steps.{Goes}
use Rattle.pads_machine.specs.declared.node.Mark.{Mark}
use Rattle.pads_machine.specs.Shown.{mark_shown, shown}
use Rattle.pads_machine.proofs.Endings.{turn-goes}
use Rattle.pads_machine.proofs.Homes.{reverse-push}
use Rattle.pads_machine.proofs.Tops.{below_top, nodes-are, nodes-first, top_shown}
use Rattle.pads_machine.proofs.state.State.turn.Goals as goal

pub returns-then-is_first-clause-turn : goal.returns-then-is_first-clause-turn
returns-then-is_first-clause-turn c =
    let m = c.args.self.now in
    let s = shown m in
    let n = c.node.result.now in
    let size : c.len-is_first.result ≡ length n.values.items = omega (arith, c.len-is_first.ensures, n.values.ok.0) in
    let first : nat_eq (length n.values.items) 0 ≡ true = ap (λ k. nat_eq k 0) (sym size ∙ c.if-is_first.true) in
    turn-goes c.args.to s (top_shown m n) (below_top m n) (nodes-are m n c.node.ensures.node) true (nodes-first m n true first)
    ∙ ap (λ (marks : List Mark). Goes (record s { at_ = c.args.to; marks = map mark_shown marks })) (sym (ap reverse c.push_reserved.ensures.items ∙ reverse-push m.marks.items _))

pub returns-else-is_first-clause-turn : goal.returns-else-is_first-clause-turn
returns-else-is_first-clause-turn c =
    let m = c.args.self.now in
    let s = shown m in
    let n = c.node.result.now in
    let size : c.len-is_first.result ≡ length n.values.items = omega (arith, c.len-is_first.ensures, n.values.ok.0) in
    let first : nat_eq (length n.values.items) 0 ≡ false = ne_eqb (length n.values.items) 0 (λ none. c.if-is_first.false (size ∙ none)) in
    turn-goes c.args.to s (top_shown m n) (below_top m n) (nodes-are m n c.node.ensures.node) false (nodes-first m n false first)
    ∙ ap (λ (marks : List Mark). Goes (record s { at_ = s.at_ + 1; marks = map mark_shown marks })) (sym (ap reverse c.push_reserved.ensures.items ∙ reverse-push m.marks.items _))
