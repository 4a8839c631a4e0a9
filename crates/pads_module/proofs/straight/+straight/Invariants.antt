use Rattle.std.proofs.Common.{◌≡◌, true, take}
use Rattle.std.specs.List.{list_all}
use Rattle.pads_module.specs.Straight.{is_straight}
use Rattle.pads_module.proofs.straight.+straight.Given as goal

abbrev pub invariant-parts_are_straight-loop-part : goal.invariant-parts_are_straight-loop-part
invariant-parts_are_straight-loop-part l = list_all (λ part. is_straight part.term) (take l.part-index l.parts) ≡ true
