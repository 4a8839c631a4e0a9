-- What is remembered of the searches of a record.
use Rattle.std.specs.Prelude.{◌≡◌, ℕ, List, All, Some, slice_get}
use Rattle.pads_image.specs.declared.op.Op.{Op}
use Rattle.pads_image.specs.declared.op.Op.TheVariants as op
use Rattle.pads_steps.specs.Searches.{StandsNowhere}
use Rattle.pads_machine.specs.declared.searches.Past.{Past}
use Rattle.pads_machine.specs.declared.searches.Stretch.{Stretch}

-- a literal of the instruction at its address stands nowhere in a stretch of a record
abbrev pub Lacks : List Op → List ℕ → Stretch → Type 0
Lacks code bytes stretch = (literal : List ℕ) → slice_get code stretch.address ≡ Some (op.Lit literal) → StandsNowhere bytes literal stretch.from stretch.to

-- so it is in each stretch that is remembered
abbrev pub Remembered : List Op → List ℕ → Past → Type 0
Remembered code bytes past = All (Lacks code bytes) past.stretches.items
