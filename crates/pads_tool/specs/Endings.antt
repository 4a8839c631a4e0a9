-- How a run ends: its status, and the words that it leaves on the notes.
use Rattle.std.specs.Prelude.{ℕ, List, [], ◌∷◌, ◌++◌, codes, decimal}
use Rattle.pads_describe.specs.VerdictLines.{refusal_line}
use Rattle.pads_question.specs.FaultLines.{question_line}
use Rattle.pads_tool.specs.declared.reason.Reason.{Reason}
use Rattle.pads_tool.specs.declared.reason.Reason.TheVariants as reason
use Rattle.pads_tool.specs.declared.status.Status.{Status}
use Rattle.pads_tool.specs.declared.status.Status.TheVariants as status
use Rattle.pads_tool.specs.declared.ending.Ending.{Ending}
use Rattle.pads_tool.specs.declared.ending.Ending.TheVariants as ending

-- the exit status of a process that ends so
abbrev pub exit_status : Status → ℕ
exit_status status.Done = 0
exit_status status.Dirty = 1
exit_status status.Usage = 2
exit_status status.Refused = 3
exit_status status.FileFault = 4
exit_status status.ReadFault = 5
exit_status status.WriteFault = 6
exit_status status.Memory = 7
exit_status status.TooLong = 8
exit_status status.Limit = 9

-- an ending without its reasons
abbrev pub status_of : Ending → Status
status_of ending.Done = status.Done
status_of ending.Dirty = status.Dirty
status_of ending.Usage = status.Usage
status_of (ending.Refused why) = status.Refused
status_of ending.FileFault = status.FileFault
status_of ending.ReadFault = status.ReadFault
status_of ending.WriteFault = status.WriteFault
status_of ending.Memory = status.Memory
status_of ending.TooLong = status.TooLong
status_of ending.Limit = status.Limit

-- a line of the notes
abbrev pub line : List ℕ → List ℕ
line words = words ++ 10 ∷ []

-- the last line where an order is refused
abbrev pub reason_line : Reason → List ℕ
reason_line (reason.Description verdict) = refusal_line verdict
reason_line (reason.MaskItem item) = line (codes "pads: refused: mask item " ++ decimal item)
reason_line (reason.Question fault) = question_line fault
reason_line reason.ImageTooLarge = line (codes "pads: refused: image too large")
reason_line reason.SummaryTooLarge = line (codes "pads: refused: summary too large")

-- the last line on the notes; a run that was done leaves none
abbrev pub last_line : Ending → List ℕ
last_line ending.Done = []
last_line ending.Dirty = []
last_line ending.Usage = line (codes "pads: usage: pads check|parse|print|summary|query|selftest WORDS OPTIONS")
last_line (ending.Refused why) = reason_line why
last_line ending.FileFault = line (codes "pads: file fault")
last_line ending.ReadFault = line (codes "pads: read fault")
last_line ending.WriteFault = line (codes "pads: write fault")
last_line ending.Memory = line (codes "pads: out of memory")
last_line ending.TooLong = line (codes "pads: input too long")
last_line ending.Limit = line (codes "pads: count too large")
