use Rattle.std.proofs.Common.{◌≡◌, ◌∙◌, sym, ap, arith, ◌-◌, length, take, reverse}
use Rattle.std.proofs.lemmas.List.{length-reverse, take_rest}
use Rattle.pads_expr.specs.Value.{Pairs}
use Rattle.pads_image.specs.States.{base_of, seen}
use Rattle.pads_machine.specs.Shown.{shown}
use Rattle.pads_machine.proofs.Taking.{reverse-drop}
use Rattle.pads_machine.proofs.state.State.seen.Goals as goal

pub returns-then-base-bindings : goal.returns-then-base-bindings
unfolding seen
returns-then-base-bindings c =
    let xs = c.as_slice-bindings.result.now in
    let base = c.base-base.result in
    let callers = (shown c.args.self.now).callers in
    record {
      seen = ap reverse (take_rest xs base) ∙ reverse-drop base xs
          ∙ ap (λ n. take (n - base) (reverse xs)) (sym (length-reverse xs))
          ∙ ap (λ base. take (length (reverse xs) - base) (reverse xs)) c.base-base.ensures.base
          ∙ ap (λ (xs : Pairs). take (length (reverse xs) - base_of callers) (reverse xs)) c.as_slice-bindings.ensures.value;
    }

pub returns-else-base-bindings : goal.returns-else-base-bindings
unfolding seen
returns-else-base-bindings c =
    let bs = c.args.self.now.bindings.items in
    let callers = (shown c.args.self.now).callers in
    let none : length (reverse bs) - base_of callers ≡ 0 = omega (arith, c.if-base-bindings.false, c.base-base.ensures.base, length-reverse bs, ap length c.as_slice-bindings.ensures.value) in
    record { seen = sym (ap (λ n. take n (reverse bs)) none) }
