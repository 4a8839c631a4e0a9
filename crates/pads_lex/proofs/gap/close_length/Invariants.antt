use Rattle.std.proofs.Common.{◌≡◌, ◌-◌, ◌≤◌, drop, length}
use Rattle.pads_lex.specs.Gaps.{close_length}
use Rattle.pads_lex.proofs.GapLemmas.{more_by}
use Rattle.pads_lex.proofs.gap.close_length.Given as goal

abbrev pub invariant-bytes : goal.invariant-bytes
invariant-bytes l = (close_length l.text ≡ more_by l.at (close_length (drop l.at l.text))) × (l.at ≤ length l.text)

abbrev pub decreases-bytes : goal.decreases-bytes
decreases-bytes l = length l.text - l.at
