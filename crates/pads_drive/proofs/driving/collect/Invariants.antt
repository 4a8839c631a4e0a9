use Rattle.std.proofs.Common.{ℕ, ◌-◌, List, map, length}
use Rattle.pads_frame.specs.State.{State}
use Rattle.pads_value.specs.Cuts.{Cut, cut_of_kept}
use Rattle.pads_drive.specs.Driving.{Collects}
use Rattle.pads_drive.specs.Halting.{IsSized}
use Rattle.pads_drive.proofs.driving.collect.Given as goal

-- no frame was lost so far, and the batch counts its bytes
pub record Collected (old new : State) (before after : List Cut) (size : ℕ) : Type 0 where
  pub collects : Collects old new before after
  pub filled : IsSized after size

abbrev pub invariant-frames : goal.invariant-frames
invariant-frames l = Collected l.initial.framer l.framer (map cut_of_kept l.initial.batch.frames) (map cut_of_kept l.batch.frames) l.batch.size

abbrev pub decreases-frames : goal.decreases-frames
decreases-frames l = 8192 - length l.batch.frames
