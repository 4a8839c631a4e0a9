use Rattle.std.proofs.Common.{◌≡◌, take, get_or, sym, ap, ◌∙◌, arith}
use Rattle.std.specs.Prelude.{fold}
use Rattle.std.proofs.lemmas.List.{take_all}
use Rattle.std.proofs.lemmas.List.Sums.{fold_more}
use Rattle.pads_lex.specs.Numbers.{with_digit}
use Rattle.pads_lex.proofs.NumberLemmas.{capped_some, capped_none, value_total, value_past}
use Rattle.pads_lex.proofs.number.value.Goals as goal

pub digits-preserved : goal.digits-preserved
digits-preserved c =
    let step = capped_some _ _ (sym c.with_digit.ensures.value ∙ c.in-Some.is) in
    let more = fold_more (with_digit c.args.base) 0 c.args.digits.now c.digits.digit-index 0 c.digits-test.true in
    (step.0 ∙ ap (λ n. with_digit c.args.base n (get_or c.args.digits.now c.digits.digit-index 0)) c.digits.invariant.0 ∙ sym more, omega (arith, step.0, step.1))

pub returns-in_default : goal.returns-in_default
returns-in_default c =
    let above = capped_none _ (sym c.with_digit.ensures.value ∙ c.in_default.is) in
    record { value = value_past _ _ _ _ c.requires.positive c.digits-test.true c.digits.invariant.0 above }

pub returns : goal.returns
returns c =
    let whole : take c.digits.digit-index c.args.digits.now ≡ c.args.digits.now = take_all _ _ c.digits-test.false in
    let total = c.digits.invariant.0 ∙ ap (fold (with_digit c.args.base) 0) whole in
    record { value = value_total _ _ _ total c.digits.invariant.1 }
