-- Which disciplines a limit on the bytes of a frame allows.
use Rattle.std.specs.Prelude.{ℕ, ◌<◌, ◌≤◌}
use Rattle.pads_frame.specs.declared.discipline.Discipline.{Discipline}
use Rattle.pads_frame.specs.declared.discipline.Discipline.TheVariants.{Term, Fixed, Rdw, Whole}

-- Blocks have a byte at least.
abbrev pub HasBlock : Discipline → Type 0
HasBlock (Term terminator) = Unit {0}
HasBlock (Fixed block) = 0 < block
HasBlock Rdw = Unit {0}
HasBlock Whole = Unit {0}

-- And they are no longer than a frame may be.
abbrev pub FitsLimit : Discipline → ℕ → Type 0
FitsLimit (Term terminator) max = Unit {0}
FitsLimit (Fixed block) max = (0 < block) × (block ≤ max)
FitsLimit Rdw max = Unit {0}
FitsLimit Whole max = Unit {0}
