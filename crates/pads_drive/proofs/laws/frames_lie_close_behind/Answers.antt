use Rattle.pads_drive.proofs.Behind.{close}
use Rattle.pads_drive.proofs.laws.frames_lie_close_behind.Goals as goal

pub returns : goal.returns
returns c = record { close = λ d max bytes more done hand fits h f. close d max fits bytes more done hand h f }
