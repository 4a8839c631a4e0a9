use Rattle.std.proofs.Common.{◌≡◌, map}
use Rattle.pads_sums.specs.Merging.{joined}
use Rattle.pads_sums.specs.Seen.{number_pair}
use Rattle.pads_sums.proofs.tracked.Tracked.merge_numbers.Given as goal

-- what the values that are left make of it is what all make of it
abbrev pub invariant-numbers : goal.invariant-numbers
invariant-numbers l =
    joined l.room (l.self, l.others) (map number_pair l.number-iterator)
    ≡ joined l.room (l.initial.self, l.initial.others) (map number_pair l.initial.number-iterator)
