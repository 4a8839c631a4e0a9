use Rattle.std.proofs.Common.{◌≡◌, ◌++◌, take}
use Rattle.pads_json.proofs.text.write_each_byte.Given as goal
use Rattle.json.specs.Print.{escape}

abbrev pub invariant-bytes : goal.invariant-bytes
invariant-bytes l = l.out ≡ l.initial.out ++ escape (take l.byte-index l.text)
