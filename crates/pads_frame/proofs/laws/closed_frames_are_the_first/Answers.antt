use Rattle.pads_frame.proofs.Tiling.{closed_first}
use Rattle.pads_frame.proofs.laws.closed_frames_are_the_first.Goals as goal

pub returns : goal.returns
returns c = record { first = closed_first }
