use Rattle.std.proofs.Common.{◌≡◌, ◌∙◌, sym, ap, reverse}
use Rattle.pads_expr.specs.Value.{Pairs}
use Rattle.pads_calc.specs.declared.reading.Reading.{Reading}
use Rattle.pads_calc.specs.Leaves.{unit_of}
use Rattle.pads_calc.specs.Wrappers.{guard_of}
use Rattle.pads_image.specs.States.{seen}
use Rattle.pads_image.specs.Steps.{reads}
use Rattle.law_images.proofs.Reaching.{seen-behind}
use Rattle.pads_machine.specs.declared.state.State.{State}
use Rattle.pads_machine.specs.Shown.{shown}
use Rattle.pads_machine.proofs.state.State.guard.Goals as goal

pub returns-clause-guard : goal.returns-clause-guard
returns-clause-guard c =
    let m = c.args.self.now in
    let binder = c.args.binder in
    let condition = c.args.condition.now in
    let env = reverse c.seen.result.now in
    let r = c.guarded_in-reading.result in
    let left = c.take_last-reading.ensures.left in
    let sees : env ≡ seen (shown m) =
    c.seen.ensures.seen ∙ ap (λ (t : State). seen (shown t)) left ∙ seen-behind (shown m) m.address (unit_of c.args.origin m.last.place) in
    ap (λ (env : Pairs). reads (guard_of binder condition env m.last) (shown m)) (sym sees)
    ∙ ap (λ (r : Reading). reads (guard_of binder condition env r) (shown m)) (sym c.take_last-reading.ensures.last)
    ∙ ap (λ (r : Reading). reads r (shown m)) (sym c.guarded_in-reading.ensures.guarded)
    ∙ ap (λ (t : State). reads r (shown t)) (sym left)
    ∙ c.read.ensures.read
