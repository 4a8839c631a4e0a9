use Rattle.std.proofs.Common.{ℕ, ◌<◌, ◌≤◌, get_or}
use Rattle.pads_machine.proofs.learning.largest.Given as goal

abbrev pub invariant-numbers : goal.invariant-numbers
invariant-numbers l = (index : ℕ) → index < l.number-index → get_or l.numbers index 0 ≤ l.most
