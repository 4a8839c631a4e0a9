use Rattle.std.proofs.Common.{◌≡◌, true, take}
use Rattle.pads_syntax_path.specs.Indexes.{none_large}
use Rattle.pads_syntax_path.proofs.whole.reach.Given as goal

abbrev pub invariant-loop-at : goal.invariant-loop-at
invariant-loop-at l = none_large (take l.at l.front) ≡ true
