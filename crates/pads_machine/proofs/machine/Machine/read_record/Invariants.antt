use Rattle.pads_value.specs.Cuts.{cut_of_frame}
use Rattle.pads_machine.proofs.Answered.{steps}
use Rattle.pads_machine.proofs.machine.Machine.read_record.Given as goal

abbrev pub ghost-read_body : goal.ghost-read_body
ghost-read_body a = steps a.image.now a.record_no (cut_of_frame a.frame.now)
