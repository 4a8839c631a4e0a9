use Rattle.std.proofs.Common.{◌≡◌, ◌+◌, ◌≤◌, ◌++◌, drop}
use Rattle.std.specs.Option.{option_copied}
use Rattle.pads_image.specs.Heights.{needs_from, needs_over}
use Rattle.pads_image.specs.Validity.{arities_of}
use Rattle.pads_image.proofs.need.needs_over.Given as goal

abbrev pub invariant-loop-op : goal.invariant-loop-op
invariant-loop-op l =
    let arities = arities_of l.entries in
    let deeper = option_copied l.deeper in
    (needs_over deeper l.code arities ≡ l.needs ++ needs_from deeper (drop (l.number + 1) arities) l.height l.most (drop l.op-index l.code))
    × (l.height ≤ 65535 + l.op-index)
    × (l.number ≤ l.op-index)
