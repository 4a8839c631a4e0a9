use Rattle.std.proofs.Common.{◌≡◌, ◌∙◌, sym, ap, arith, ◌+◌, ◌<◌, ◌≤◌, ◌∷◌, length, min, drop, reverse, get_or, Some, slice_get}
use Rattle.std.proofs.lemmas.List.{drop-set-lt}
use Rattle.pads_value.specs.declared.value.Val.{Val}
use Rattle.pads_calc.specs.Arguments.{bound_to}
use Rattle.pads_calc.proofs.Bindings.{bound-next}
use Rattle.pads_machine.specs.Shown.{homeless}
use Rattle.pads_machine.proofs.Bound.{bound-end, homeless-end, homeless-next, left-next, left-same}
use Rattle.pads_machine.proofs.Homes.{reverse-push}
use Rattle.pads_machine.proofs.bindings.bind.Goals as goal

pub each-preserved : goal.each-preserved
each-preserved c =
    let names = c.args.params.now in
    let args = c.args.args in
    let at_ = c.each.at in
    let found = c.take-arg.result in
    let more : at_ < length names = omega (arith, c.each-test.true, c.min-count.ensures, c.len.ensures) in
    let there : slice_get args at_ ≡ Some found = sym (left-same c.each.args.items args at_ c.each.invariant.args_left) ∙ c.take-arg.ensures.value in
    let name = get_or names at_ 0 in
    let bs = reverse c.each.bindings.items in
    let hs = reverse c.each.homes.items in
    record {
      args_count = c.take-arg.ensures.len ∙ c.each.invariant.args_count;
      args_left = ap (λ xs. drop (at_ + 1) xs) c.take-arg.ensures.rest ∙ drop-set-lt (at_ + 1) c.each.args.items at_ _ (omega arith) ∙ left-next c.each.args.items args at_ c.each.invariant.args_left;
      bindings_count = omega (arith, c.push_reserved.ensures.len, c.each.invariant.bindings_count);
      homes_count = omega (arith, c.push_reserved-in-each.ensures.len, c.each.invariant.homes_count);
      bindings_kept = c.push_reserved.ensures.capacity ∙ c.each.invariant.bindings_kept;
      homes_kept = c.push_reserved-in-each.ensures.capacity ∙ c.each.invariant.homes_kept;
      bound = ap (λ env. bound_to (drop (at_ + 1) names) (drop (at_ + 1) args) env) (ap reverse c.push_reserved.ensures.items ∙ reverse-push c.each.bindings.items (name, c.value_of.result))
          ∙ ap (λ (v : Val). bound_to (drop (at_ + 1) names) (drop (at_ + 1) args) ((name, v) ∷ bs)) c.value_of.ensures.value
          ∙ sym (bound-next names args bs at_ found more there) ∙ c.each.invariant.bound;
      homes_bound = ap (λ homes. homeless (drop (at_ + 1) names) (drop (at_ + 1) args) homes) (ap reverse c.push_reserved-in-each.ensures.items ∙ reverse-push c.each.homes.items _)
          ∙ sym (homeless-next names args hs at_ found more there) ∙ c.each.invariant.homes_bound;
    }

pub returns-clause-bindings : goal.returns-clause-bindings
returns-clause-bindings c =
    let names = c.args.params.now in
    let args = c.args.args in
    let over : min (length names) (length args) ≤ c.each.at = omega (arith, c.each-test.false, c.min-count.ensures, c.len.ensures, ap length c.into_vec-args.ensures.same, c.into_vec-args.result.ok.0) in
    sym (bound-end names args (reverse c.each.bindings.items) c.each.at over) ∙ c.each.invariant.bound

pub returns-clause-homes : goal.returns-clause-homes
returns-clause-homes c =
    let names = c.args.params.now in
    let args = c.args.args in
    let over : min (length names) (length args) ≤ c.each.at = omega (arith, c.each-test.false, c.min-count.ensures, c.len.ensures, ap length c.into_vec-args.ensures.same, c.into_vec-args.result.ok.0) in
    sym (homeless-end names args (reverse c.each.homes.items) c.each.at over) ∙ c.each.invariant.homes_bound
