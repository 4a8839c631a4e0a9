use Rattle.std.proofs.Common.{◌≡◌, ◌+◌, ◌≤◌, map, drop}
use Rattle.pads_image.specs.Blocks.{named, part_layout}
use Rattle.pads_compile.proofs.emit.named.Given as goal

abbrev pub invariant-loop-part : goal.invariant-loop-part
invariant-loop-part l =
    (named (map part_layout l.parts) ≡ l.named + named (map part_layout (drop l.part-index l.parts))) × (l.named ≤ l.part-index)
