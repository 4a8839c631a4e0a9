-- What a call of `Framer::next` answers and leaves, once its frame is no longer used.
use Rattle.std.specs.Prelude.{Option, None, Some}
use Rattle.std.specs.Borrow.{Fml, MutBor}
use Rattle.std.specs.Io.BufRead.{Rests}
use Rattle.pads_value.specs.Cuts.{cut_of_frame}
use Rattle.pads_value.specs.declared.frame.Frame.{Frame}
use Rattle.pads_frame.specs.contracts.framer.Framer.{the_row}
use Rattle.pads_frame.specs.Next.{HandsOut, Waits}
use Rattle.pads_frame.specs.State.{State}

-- A frame is handed out, or more bytes are wanted.
abbrev pub NextGives : State → Option Frame → State → Type 0
NextGives old None new = Waits old new
NextGives old (Some frame) new = HandsOut old (cut_of_frame frame) new

abbrev pub Lent : MutBor State → Option Frame → Fml
Lent framer answer = Rests the_row framer (λ new. NextGives framer.now answer new)
