-- What rows add to the tally of the rows before them.
use Rattle.std.specs.Prelude.{◌≡◌, true, List, ◌++◌, Result, Ok, Err, ⊤}
use Rattle.pads_value.specs.declared.memory.Refusal.{Refusal}
use Rattle.pads_value.specs.declared.memory.Refusal.TheVariants as refusal
use Rattle.pads_drive.specs.declared.limit.Limit.{Limit}
use Rattle.pads_drive.specs.Outputs.{Work, Tallies}

module _ {Row Tally : Type 0} (work : Work Row Tally) (before rows : List Row) where
  -- A limit is met where the tally can't count them too. Of want of memory nothing is said.
  abbrev pub Refuses : Refusal Limit → Type 0
  Refuses (refusal.Fault limit) = work.is_over (before ++ rows) ≡ true
  Refuses refusal.Memory = ⊤

  -- It counts them, or refuses.
  abbrev pub Counts : {T : Type 0} → Tally → Result T (Refusal Limit) → Type 0
  Counts tally (Ok done) = Tallies work (before ++ rows) tally
  Counts tally (Err refused) = Refuses refused
