use Rattle.std.proofs.Common.{◌≡◌, [], take}
use Rattle.pads_value.specs.Names.{texts}
use Rattle.pads_trans.specs.Names.{with_names}
use Rattle.pads_trans.proofs.names.Names.table.Given as goal

abbrev pub invariant-loop-name : goal.invariant-loop-name
invariant-loop-name l = l.table ≡ with_names [] (texts (take l.name-index l.name-items))
