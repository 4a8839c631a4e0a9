use Rattle.std.proofs.Common.{◌≡◌, map}
use Rattle.pads_sums.specs.Merging.{joined}
use Rattle.pads_sums.specs.Seen.{text_pair}
use Rattle.pads_sums.proofs.tracked.Tracked.merge_texts.Given as goal

-- what the values that are left make of it is what all make of it
abbrev pub invariant-texts : goal.invariant-texts
invariant-texts l =
    joined l.room (l.self, l.others) (map text_pair l.points-iterator)
    ≡ joined l.room (l.initial.self, l.initial.others) (map text_pair l.initial.points-iterator)
