-- What is left of the records that are made: the rest of the one at hand, and those that are still to be made.
use Rattle.std.specs.Prelude.{ℕ, ◌-◌, List, ◌++◌, drop}
use Rattle.pads_selftest.specs.Records.{records_from}
use Rattle.pads_selftest.specs.declared.source.Progress.{Progress}

abbrev pub left_of : Progress → List ℕ
left_of progress = drop progress.at progress.line.items ++ records_from progress.next (progress.end - progress.next)
