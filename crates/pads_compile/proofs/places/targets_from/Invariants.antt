use Rattle.std.proofs.Common.{◌≡◌, ◌+◌, ◌≤◌, ◌++◌, map, drop}
use Rattle.pads_image.specs.Blocks.{arms_size, blocks, case_layout, targets}
use Rattle.pads_image.specs.Validity.{longest}
use Rattle.pads_compile.proofs.places.targets_from.Given as goal

abbrev pub invariant-loop-case : goal.invariant-loop-case
invariant-loop-case l =
    (targets (map case_layout l.cases) l.first ≡ l.made ++ targets (map case_layout (drop l.case-index l.cases)) l.next)
    × (l.next + arms_size (blocks (map case_layout (drop l.case-index l.cases))) ≤ longest)
