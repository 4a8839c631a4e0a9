-- How two sinks grow by output, where they tell what was written.
use Rattle.std.specs.Prelude.{ℕ, List, Option, ◌++◌}
use Rattle.std.specs.Io.KnownBytes.{Appends}
use Rattle.pads_io.specs.Transfer.{AppendsPrefix}
use Rattle.pads_drive.specs.declared.output.Output.{Output}

-- both grew by all of the output
pub record Grows (out out' notes notes' : Option (List ℕ)) (output : Output) : Type 0 where
  pub out_grows : Appends out out' output.out
  pub notes_grow : Appends notes notes' output.notes

-- both grew by a prefix of the output
pub record GrowsPrefix (out out' notes notes' : Option (List ℕ)) (output : Output) : Type 0 where
  pub out_grows : AppendsPrefix out out' output.out
  pub notes_grow : AppendsPrefix notes notes' output.notes

-- these bytes were written, and maybe others behind them
abbrev pub HasWritten : Option (List ℕ) → Option (List ℕ) → List ℕ → Type 0
HasWritten old new bytes = (more : List ℕ) × Appends old new (bytes ++ more)

-- all of the output was written on both, and maybe more behind it
pub record GrowsPast (out out' notes notes' : Option (List ℕ)) (output : Output) : Type 0 where
  pub out_grows : HasWritten out out' output.out
  pub notes_grow : HasWritten notes notes' output.notes
