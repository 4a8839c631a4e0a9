use Rattle.std.proofs.Common.{◌≡◌, ◌++◌, map, take}
use Rattle.pads_code.specs.CodePage.{byte_of}
use Rattle.pads_int.proofs.spelling.push_text.Given as goal

abbrev pub invariant-loop-point : goal.invariant-loop-point
invariant-loop-point l = l.field ≡ l.fn.field ++ map (byte_of l.coding) (take l.point-index l.text)
