use Rattle.std.proofs.Common.{◌≡◌, true, take}
use Rattle.std.specs.List.{list_all}
use Rattle.pads_json.specs.Faults.{is_quiet}
use Rattle.pads_json.proofs.faults.+quiet.Given as goal

abbrev pub invariant-are_quiet-kids : goal.invariant-are_quiet-kids
invariant-are_quiet-kids l = list_all is_quiet (take l.i l.kids) ≡ true
