use Rattle.pads_drive.proofs.Ahead.{little_ahead}
use Rattle.pads_drive.proofs.laws.reading_is_little_ahead.Goals as goal

pub returns : goal.returns
returns c = record { ahead = λ d max seen piece more done hand others fits whole e met batch few. little_ahead d max seen piece more done hand others fits whole e met batch few }
