-- The text in a description's file, where the file's content is known, and what is made of it.
use Rattle.std.specs.Prelude.{◌≡◌, ℕ, List, Option, IfSome}
use Rattle.pads_code.specs.declared.Coding.{Coding}
use Rattle.pads_describe.specs.Answers.{IsAcceptedWith}
use Rattle.pads_describe.specs.Describing.{Describes}
use Rattle.pads_describe.specs.Verdicts.{IsRefused}
use Rattle.pads_io.specs.Faults.{Rose}
use Rattle.pads_module.specs.Modules.{Contents}
use Rattle.pads_describe.specs.declared.verdict.Verdict.{Verdict}
use Rattle.pads_tool.specs.declared.reason.Reason.{Reason}
use Rattle.pads_tool.specs.declared.reason.Reason.TheVariants as reason
use Rattle.pads_tool.specs.declared.ending.Ending.{Ending}
use Rattle.pads_tool.specs.declared.ending.Ending.TheVariants as ending

abbrev pub IsTextIn : Option (List ℕ) → List ℕ → Type 0
IsTextIn content text = IfSome content (λ bytes. text ≡ bytes)

-- It is accepted, and has so many declarations.
abbrev pub IsAcceptedIn : Option (List ℕ) → ℕ → Type 0
IsAcceptedIn content count = IfSome content (λ text. IsAcceptedWith text count)

-- It describes this module.
abbrev pub IsDescribedIn : Option (List ℕ) → Coding → Contents → Type 0
IsDescribedIn content coding made = IfSome content (λ text. Describes text coding made)

-- It is refused for this reason.
abbrev pub IsRefusedIn : Option (List ℕ) → Verdict → Type 0
IsRefusedIn content verdict = IfSome content (λ text. IsRefused text verdict)

-- An order is refused for this reason, of which only a verdict on the description in its file comes for it.
abbrev pub IsRefusedFor : Option (List ℕ) → Reason → Type 0
IsRefusedFor content (reason.Description verdict) = IsRefusedIn content verdict
IsRefusedFor content (reason.MaskItem item) = ⊥
IsRefusedFor content (reason.Question fault) = ⊥
IsRefusedFor content reason.ImageTooLarge = ⊥
IsRefusedFor content reason.SummaryTooLarge = ⊥

-- The run ends so where only memory is taken: the order is refused for a reason, or there is no memory.
abbrev pub StopsFor : (Reason → Type 0) → Ending → Type 0
StopsFor Refuses (ending.Refused why) = Refuses why
StopsFor Refuses ending.Memory = Unit {0}
StopsFor Refuses ending.FileFault = ⊥
StopsFor Refuses ending.Done = ⊥
StopsFor Refuses ending.Dirty = ⊥
StopsFor Refuses ending.Usage = ⊥
StopsFor Refuses ending.ReadFault = ⊥
StopsFor Refuses ending.WriteFault = ⊥
StopsFor Refuses ending.TooLong = ⊥
StopsFor Refuses ending.Limit = ⊥

-- The run ends so before there is a module: the order is refused for a reason, its file can't be read, or there is no memory.
-- The numbers are the files' count of failures before and after.
abbrev pub StopsBefore : (Reason → Type 0) → ℕ → ℕ → Ending → Type 0
StopsBefore Refuses before now (ending.Refused why) = Refuses why
StopsBefore Refuses before now ending.FileFault = Rose before now
StopsBefore Refuses before now ending.Memory = Unit {0}
StopsBefore Refuses before now ending.Done = ⊥
StopsBefore Refuses before now ending.Dirty = ⊥
StopsBefore Refuses before now ending.Usage = ⊥
StopsBefore Refuses before now ending.ReadFault = ⊥
StopsBefore Refuses before now ending.WriteFault = ⊥
StopsBefore Refuses before now ending.TooLong = ⊥
StopsBefore Refuses before now ending.Limit = ⊥
