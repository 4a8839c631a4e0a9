use Rattle.std.proofs.Common.{◌≡◌, drop}
use Rattle.pads_code.specs.CodePage.{points_of}
use Rattle.pads_bases.specs.Enums.{begins}
use Rattle.pads_bases.proofs.choice.begins_with.Given as goal

abbrev pub invariant-loop-place : goal.invariant-loop-place
invariant-loop-place l = begins l.spelling (points_of l.coding l.bytes) ≡ begins (drop l.place l.spelling) (drop l.place (points_of l.coding l.bytes))
