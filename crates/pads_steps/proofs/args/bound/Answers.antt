use Rattle.std.proofs.Common.{◌≡◌, ◌∷◌, ◌∙◌, sym, get_or, Some, None, slice_get}
use Rattle.pads_calc.proofs.Bindings.{bound-next, bound-past}
use Rattle.pads_steps.proofs.args.bound.Goals as goal

pub returns-in_default : goal.returns-in_default
returns-in_default c =
    let past : slice_get c.args.args.now c.loop-i.i ≡ None = sym c.in_default.ensures.item in
    record { bound = sym (c.loop-i.invariant ∙ bound-past c.args.names.now c.args.args.now c.loop-i.env.pairs c.loop-i.i past) }

pub loop-i-preserved : goal.loop-i-preserved
loop-i-preserved c =
    let there : slice_get c.args.args.now c.loop-i.i ≡ Some c.in-Some.arg.now = sym c.in-Some.ensures.item in
    let name = get_or c.args.names.now c.loop-i.i 0 in
    let next = bound-next c.args.names.now c.args.args.now c.loop-i.env.pairs c.loop-i.i c.in-Some.arg.now c.loop-i-test.true there in
    let pairs : c.bind.new.self.pairs ≡ (name, c.in_ok-value_of.field-0) ∷ c.loop-i.env.pairs = c.in_ok-bind.ensures.bound in
    rw (pairs, c.in_ok-value_of.ensures.value) (c.loop-i.invariant ∙ next)
