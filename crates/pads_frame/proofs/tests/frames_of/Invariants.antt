use Rattle.std.proofs.Common.{◌≡◌, false}
use Rattle.pads_frame.proofs.tests.frames_of.Given as goal

abbrev pub invariant-loop-turn : goal.invariant-loop-turn
invariant-loop-turn l = l.framer.ended ≡ false
