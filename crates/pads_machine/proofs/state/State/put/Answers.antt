use Rattle.std.proofs.Common.{◌≡◌, ◌∙◌, ap, arith, ◌+◌}
use Rattle.pads_image.specs.Steps.{Goes}
use Rattle.pads_machine.specs.Shown.{shown}
use Rattle.pads_machine.proofs.state.State.put.Goals as goal

pub returns-clause-put : goal.returns-clause-put
returns-clause-put c =
    let m = c.args.self.now in
    let k = c.keep.new.self in
    let address : m.address + 1 + 1 ≡ k.address + 2 = omega (arith, c.in_ok-keep.ensures.address) in
    c.in_ok-keep.ensures.keep (m.address + 1) ∙ ap (λ a. Goes (record (shown k) { at_ = a })) address
