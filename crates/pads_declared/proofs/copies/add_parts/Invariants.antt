use Rattle.std.proofs.Common.{◌≡◌, take}
use Rattle.pads_rules.specs.Pieces.{names_after_all}
use Rattle.pads_declared.proofs.copies.add_parts.Given as goal

abbrev pub invariant-loop-part : goal.invariant-loop-part
invariant-loop-part l = l.names ≡ names_after_all l.sight l.fn.names (take l.part-index l.parts)
