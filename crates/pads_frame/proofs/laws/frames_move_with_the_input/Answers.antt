use Rattle.pads_frame.proofs.Tiling.{cuts_moved}
use Rattle.pads_frame.proofs.laws.frames_move_with_the_input.Goals as goal

pub returns : goal.returns
returns c = record { moved = cuts_moved }
