-- The limits that an order keeps, which a command holds as facts: each holds in one way only.
use Rattle.std.specs.Prelude.{ℕ}
use Rattle.std.specs.Coded.{×_prop, Unit-prop, le_prop}
use Rattle.pads_frame.specs.Fits.{FitsLimit}
use Rattle.pads_frame.specs.declared.discipline.Discipline.{Discipline}
use Rattle.pads_frame.specs.declared.discipline.Discipline.TheVariants.{Term, Fixed, Rdw, Whole}

pub FitsLimit-prop : (discipline : Discipline) (max : ℕ) → IsProp (FitsLimit discipline max)
FitsLimit-prop (Term terminator) max = Unit-prop
FitsLimit-prop (Fixed block) max = ×_prop le_prop le_prop
FitsLimit-prop Rdw max = Unit-prop
FitsLimit-prop Whole max = Unit-prop
