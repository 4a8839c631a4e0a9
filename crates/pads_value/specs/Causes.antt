-- The names of causes, as lines of output write them: this project's own words.
use Rattle.std.specs.Prelude.{ℕ, List, codes}
use Rattle.pads_value.specs.declared.cause.Cause.{Cause}
use Rattle.pads_value.specs.declared.cause.Cause.TheVariants as cause

abbrev pub name_of : Cause → List ℕ
name_of cause.Invalid = codes "INVALID"
name_of cause.Width = codes "WIDTH"
name_of cause.BadParam = codes "BAD_PARAM"
name_of cause.Enum = codes "ENUM"
name_of cause.MissingLiteral = codes "MISSING_LITERAL"
name_of cause.MissingEor = codes "MISSING_EOR"
name_of cause.UnionMatch = codes "UNION_MATCH"
name_of cause.Switch = codes "SWITCH"
name_of cause.Compute = codes "COMPUTE"
name_of cause.ArrayBound = codes "ARRAY_BOUND"
name_of cause.Depth = codes "DEPTH"
name_of cause.RecordLong = codes "RECORD_LONG"
name_of cause.RecordBroken = codes "RECORD_BROKEN"
name_of cause.Range = codes "RANGE"
name_of cause.Skipped = codes "SKIPPED"
name_of cause.Constraint = codes "CONSTRAINT"
name_of cause.ArraySize = codes "ARRAY_SIZE"
name_of cause.ArraySep = codes "ARRAY_SEP"
name_of cause.ArrayElem = codes "ARRAY_ELEM"
name_of cause.ArrayStall = codes "ARRAY_STALL"
name_of cause.ExtraBeforeEor = codes "EXTRA_BEFORE_EOR"
name_of cause.RecordShort = codes "RECORD_SHORT"
