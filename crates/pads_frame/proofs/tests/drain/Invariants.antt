use Rattle.std.proofs.Common.{◌≡◌, ◌+◌, length}
use Rattle.pads_frame.proofs.tests.drain.Given as goal

abbrev pub invariant-loop-frame : goal.invariant-loop-frame
invariant-loop-frame l = l.framer.ended ≡ l.initial.framer.ended

abbrev pub decreases-loop-frame : goal.decreases-loop-frame
decreases-loop-frame l = l.framer.passed + length l.framer.held
