-- On what the law that bases read what they spell depends: a field isn't too wide to be spelled, a text has
-- no stop character, the spellings of an enum's labels differ.
use Rattle.std.specs.Prelude.{◌≡◌, ℕ, pos, ◌≤ℤ◌, List, Some}
use Rattle.pads_value.specs.declared.value.Val.{Val}
use Rattle.pads_value.specs.declared.value.Val.TheVariants as val
use Rattle.pads_bases.specs.Enums.{SpellingsDiffer}
use Rattle.pads_bases.specs.Strings.{HasNoStop, widest}
use Rattle.pads_dispatch.specs.declared.base.Arg.{Arg}
use Rattle.pads_dispatch.specs.declared.base.Base.{Base}
use Rattle.pads_dispatch.specs.Applied.{Applied, applied, integer, field, binary, until, fixed, class, char, address, labelled, packed, zoned}

-- the field, if it is one, has at most 16,777,216 bytes
abbrev pub IsNarrow : Applied → Type 0
IsNarrow (integer kind coding) = Unit {0}
IsNarrow (field kind coding width) = width ≤ℤ pos widest
IsNarrow (binary kind order size) = Unit {0}
IsNarrow (until coding stop) = Unit {0}
IsNarrow (fixed coding width) = width ≤ℤ pos widest
IsNarrow (class coding text) = Unit {0}
IsNarrow (char coding) = Unit {0}
IsNarrow (address coding) = Unit {0}
IsNarrow (labelled coding labels) = Unit {0}
IsNarrow (packed signed digits) = Unit {0}
IsNarrow (zoned signed digits) = Unit {0}

-- a text that goes up to a stop character has none
abbrev pub HasNoStopOf : Applied → Val → Type 0
HasNoStopOf (integer kind coding) v = Unit {0}
HasNoStopOf (field kind coding width) v = Unit {0}
HasNoStopOf (binary kind order size) v = Unit {0}
HasNoStopOf (until coding stop) v = (text : List ℕ) → v ≡ val.Text text → HasNoStop stop text
HasNoStopOf (fixed coding width) v = Unit {0}
HasNoStopOf (class coding text) v = Unit {0}
HasNoStopOf (char coding) v = Unit {0}
HasNoStopOf (address coding) v = Unit {0}
HasNoStopOf (labelled coding labels) v = Unit {0}
HasNoStopOf (packed signed digits) v = Unit {0}
HasNoStopOf (zoned signed digits) v = Unit {0}

-- no two labels have one spelling
abbrev pub LabelsDiffer : Applied → Type 0
LabelsDiffer (integer kind coding) = Unit {0}
LabelsDiffer (field kind coding width) = Unit {0}
LabelsDiffer (binary kind order size) = Unit {0}
LabelsDiffer (until coding stop) = Unit {0}
LabelsDiffer (fixed coding width) = Unit {0}
LabelsDiffer (class coding text) = Unit {0}
LabelsDiffer (char coding) = Unit {0}
LabelsDiffer (address coding) = Unit {0}
LabelsDiffer (labelled coding labels) = SpellingsDiffer labels
LabelsDiffer (packed signed digits) = Unit {0}
LabelsDiffer (zoned signed digits) = Unit {0}

-- where the arguments are of the base type's number and sorts, it holds of the two together
abbrev pub Holds : Base → List Arg → (Applied → Type 0) → Type 0
Holds base args P = (whole : Applied) → applied base args ≡ Some whole → P whole
