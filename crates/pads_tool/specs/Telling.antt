-- What a command does that writes one text on `out` behind all that it does, and nothing else.
use Rattle.std.specs.Prelude.{◌≡◌, ℕ, Bool, true, false, List, Option}
use Rattle.std.specs.Io.KnownBytes.{Appends}
use Rattle.pads_io.specs.Faults.{Rose}
use Rattle.pads_io.specs.Transfer.{AppendsPrefix}
use Rattle.pads_tool.specs.declared.ending.Ending.{Ending}
use Rattle.pads_tool.specs.declared.ending.Ending.TheVariants as ending

-- The text was written, of what is well or isn't; or a prefix of it, where the sink failed; or there was no memory for it, and
-- nothing was written. The numbers are the sink's count of failures before and after.
abbrev pub Tells : List ℕ → Bool → (out out' : Option (List ℕ)) (before now : ℕ) → Ending → Type 0
Tells text well out out' before now ending.Done = Appends out out' text × (well ≡ true)
Tells text well out out' before now ending.Dirty = Appends out out' text × (well ≡ false)
Tells text well out out' before now ending.WriteFault = Rose before now × AppendsPrefix out out' text
Tells text well out out' before now ending.Usage = ⊥
Tells text well out out' before now (ending.Refused reason) = ⊥
Tells text well out out' before now ending.FileFault = ⊥
Tells text well out out' before now ending.ReadFault = ⊥
Tells text well out out' before now ending.Memory = out' ≡ out
Tells text well out out' before now ending.TooLong = ⊥
Tells text well out out' before now ending.Limit = ⊥
