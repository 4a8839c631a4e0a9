-- The last words on the notes.
use Rattle.std.specs.Prelude.{ℕ, ◌≤◌, ◌⊎◌, List, Option}
use Rattle.std.specs.Io.KnownBytes.{Appends}
use Rattle.pads_io.specs.Faults.{Rose}
use Rattle.pads_io.specs.Transfer.{AppendsPrefix}

-- All of these words were written, or a prefix of them where the sink failed.
pub record Leaves (notes notes' : Option (List ℕ)) (before now : ℕ) (words : List ℕ) : Type 0 where
  pub later : before ≤ now
  pub grown : Appends notes notes' words ⊎ (Rose before now × AppendsPrefix notes notes' words)
