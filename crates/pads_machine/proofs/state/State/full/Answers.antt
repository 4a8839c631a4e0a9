use Rattle.std.proofs.Common.{◌≡◌, ◌∙◌, ap, sym, arith, ◌+◌, true, false, List, length}
use Rattle.std.proofs.lemmas.List.{length-reverse}
use Rattle.std.specs.Option.{option_copied}
use Rattle.pads_value.specs.declared.value.Val.{Val}
use Rattle.pads_calc.specs.Arrays.{is_last}
use Rattle.pads_image.specs.States as states
use Rattle.pads_image.specs.States.{floor_of, seen}
use Rattle.pads_image.specs.Steps.{Goes}
use Rattle.pads_machine.specs.Shown.{latest_values, shown}
use Rattle.pads_machine.proofs.Endings.{full-alone, full-ends, full-goes}
use Rattle.pads_machine.proofs.Tops.{below_top, nodes-are, nodes-full, top_shown}
use Rattle.pads_machine.proofs.state.State.full.Goals as goal

pub is_last-requires-clause-own : goal.is_last-requires-clause-own
is_last-requires-clause-own c =
    let m = c.args.self.now in
    let n = c.node-node.result.now in
    let floor : floor_of (shown m).nodes ≡ n.base = ap floor_of (nodes-are m n c.node-node.ensures.node) in
    let own = full-alone c.args.to (shown m) (top_shown m n) (below_top m n) (nodes-are m n c.node-node.ensures.node) (option_copied c.args.last) c.args.elements_name m.room c.requires.within in
    omega (arith, floor, own, length-reverse m.bindings.items)

pub returns-then-is_full-clause-full : goal.returns-then-is_full-clause-full
returns-then-is_full-clause-full c =
    let m = c.args.self.now in
    let n = c.node-node.result.now in
    let size : c.len.result ≡ length n.values.items = omega (arith, c.len.ensures, n.values.ok.0) in
    full-ends c.args.to (shown m) (top_shown m n) (below_top m n) (nodes-are m n c.node-node.ensures.node) (option_copied c.args.last) c.args.elements_name (full-alone c.args.to (shown m) (top_shown m n) (below_top m n) (nodes-are m n c.node-node.ensures.node) (option_copied c.args.last) c.args.elements_name m.room c.requires.within)
    (nodes-full m n c.len.result size ∙ sym c.if-is_full.ensures.full)

pub returns-then-is_last-clause-full : goal.returns-then-is_last-clause-full
returns-then-is_last-clause-full c =
    let m = c.args.self.now in
    let s = shown m in
    let n = c.node-node.result.now in
    let size : c.len.result ≡ length n.values.items = omega (arith, c.len.ensures, n.values.ok.0) in
    let are = nodes-are m n c.node-node.ensures.node in
    let is : is_last (option_copied c.args.last) c.args.elements_name (top_shown m n).values (seen s) ≡ true =
    ap (λ (values : List Val). is_last (option_copied c.args.last) c.args.elements_name values (seen s)) (sym (ap latest_values are))
    ∙ sym c.is_last.ensures.last ∙ c.if-is_last.true in
    full-goes c.args.to s (top_shown m n) (below_top m n) are (option_copied c.args.last) c.args.elements_name (full-alone c.args.to (shown m) (top_shown m n) (below_top m n) (nodes-are m n c.node-node.ensures.node) (option_copied c.args.last) c.args.elements_name m.room c.requires.within)
    false (nodes-full m n c.len.result size ∙ sym c.if-is_full.ensures.full) true is
    ∙ ap (λ (t : states.State). Goes (record t { at_ = c.args.to })) (sym c.is_last.ensures.shown)

pub returns-else-is_last-clause-full : goal.returns-else-is_last-clause-full
returns-else-is_last-clause-full c =
    let m = c.args.self.now in
    let s = shown m in
    let n = c.node-node.result.now in
    let size : c.len.result ≡ length n.values.items = omega (arith, c.len.ensures, n.values.ok.0) in
    let are = nodes-are m n c.node-node.ensures.node in
    let is : is_last (option_copied c.args.last) c.args.elements_name (top_shown m n).values (seen s) ≡ false =
    ap (λ (values : List Val). is_last (option_copied c.args.last) c.args.elements_name values (seen s)) (sym (ap latest_values are))
    ∙ sym c.is_last.ensures.last ∙ c.if-is_last.false in
    full-goes c.args.to s (top_shown m n) (below_top m n) are (option_copied c.args.last) c.args.elements_name (full-alone c.args.to (shown m) (top_shown m n) (below_top m n) (nodes-are m n c.node-node.ensures.node) (option_copied c.args.last) c.args.elements_name m.room c.requires.within)
    false (nodes-full m n c.len.result size ∙ sym c.if-is_full.ensures.full) false is
    ∙ ap (λ (t : states.State). Goes (record t { at_ = t.at_ + 1 })) (sym c.is_last.ensures.shown)
