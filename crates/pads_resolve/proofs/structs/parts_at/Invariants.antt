use Rattle.std.proofs.Common.{◌≡◌, ◌++◌, drop}
use Rattle.pads_resolve.specs.Borrowed.{stands}
use Rattle.pads_resolution.specs.Bodies.{parts_at}
use Rattle.pads_resolve.proofs.structs.parts_at.Given as goal

abbrev pub invariant-loop-part : goal.invariant-loop-part
invariant-loop-part l = l.made ++ parts_at (stands l.site) l.names (drop l.part-index l.parts) ≡ parts_at (stands l.site) l.fn.params l.parts
