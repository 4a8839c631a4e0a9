use Rattle.std.proofs.Common.{◌≡◌, ◌∙◌, ap, arith, ◌+◌}
use Rattle.pads_image.specs.Steps.{Goes}
use Rattle.pads_machine.specs.Shown.{shown}
use Rattle.pads_machine.proofs.Shows.{part-open, part-room}
use Rattle.pads_machine.proofs.state.State.part.Goals as goal

pub keep-requires-clause-some : goal.keep-requires-clause-some
keep-requires-clause-some c = let m = c.args.self.now in part-open c.args.origin m.room c.args.name m c.requires.within

pub keep-requires-clause-room : goal.keep-requires-clause-room
keep-requires-clause-room c = let m = c.args.self.now in part-room c.args.origin m.room c.args.name m c.requires.within

pub returns-clause-part : goal.returns-clause-part
returns-clause-part c =
    let m = c.args.self.now in
    let k = c.keep.new.self in
    let address : m.address + 1 ≡ k.address + 1 = omega (arith, c.in_ok-keep.ensures.address) in
    c.in_ok-keep.ensures.keep m.address ∙ ap (λ a. Goes (record (shown k) { at_ = a })) address
