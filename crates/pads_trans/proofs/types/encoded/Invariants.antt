use Rattle.std.proofs.Common.{◌≡◌, map, take}
use Rattle.pads_code.specs.CodePage.{byte_of}
use Rattle.pads_trans.proofs.types.encoded.Given as goal

abbrev pub invariant-loop-point : goal.invariant-loop-point
invariant-loop-point l = l.bytes ≡ map (byte_of l.ambient) (take l.point-index l.points)
