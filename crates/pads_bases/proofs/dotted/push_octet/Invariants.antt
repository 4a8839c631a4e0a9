use Rattle.std.proofs.Common.{◌≡◌, ◌++◌, take}
use Rattle.pads_code.specs.CodePage.{bytes_of}
use Rattle.pads_bases.proofs.dotted.push_octet.Given as goal

abbrev pub invariant-loop-point : goal.invariant-loop-point
invariant-loop-point l = l.spelled.items ≡ l.fn.spelled.items ++ bytes_of l.coding (take l.point-index l.text)
