use Rattle.pads_frame.proofs.Tiling.{tiles}
use Rattle.pads_frame.proofs.laws.frames_take_up_the_input.Goals as goal

pub returns : goal.returns
returns c = record { tiles = tiles }
