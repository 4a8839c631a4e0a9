-- What a base type reads at a place, by cases of the base. A wrong number or sort of arguments is hard
-- BAD_PARAM.
use Rattle.std.specs.Prelude.{ℕ, List, Option, Some, None}
use Rattle.pads_value.specs.declared.value.Val.{Val}
use Rattle.pads_value.specs.declared.value.Val.TheVariants as val
use Rattle.pads_value.specs.declared.cause.Cause.TheVariants as cause
use Rattle.pads_value.specs.declared.reading.Read.{Read}
use Rattle.pads_value.specs.declared.reading.Read.TheVariants.{Good, Soft, Hard}
use Rattle.pads_int.specs.Readings.{int_reading, int_fw_reading}
use Rattle.pads_bases.specs.Addresses.{ip_reading}
use Rattle.pads_bases.specs.Binaries.{bin_reading}
use Rattle.pads_bases.specs.Classes.{class_reading}
use Rattle.pads_bases.specs.Enums.{enum_reading}
use Rattle.pads_bases.specs.Strings.{until_reading, fixed_reading, char_reading}
use Rattle.pads_decimal.specs.Packed.{packed_reading}
use Rattle.pads_decimal.specs.Zoned.{zoned_reading}
use Rattle.pads_dispatch.specs.declared.base.Arg.{Arg}
use Rattle.pads_dispatch.specs.declared.base.Base.{Base}
use Rattle.pads_dispatch.specs.Applied.{Applied, applied, integer, field, binary, until, fixed, class, char, address, labelled, packed, zoned}
use Rattle.pads_dispatch.specs.Kinds.{range_of}

-- a reading of numbers, texts or labels as one of values
abbrev pub as_value : {X : Type 0} → (X → Val) → Read X → Read Val
as_value value (Good size x) = Good size (value x)
as_value value (Soft size cause) = Soft size cause
as_value value (Hard cause) = Hard cause

abbrev pub reading_of : Applied → List ℕ → Read Val
reading_of (integer kind coding) bytes = as_value val.Num (int_reading kind coding bytes)
reading_of (field kind coding width) bytes = as_value val.Num (int_fw_reading kind coding width bytes)
reading_of (binary kind order size) bytes = as_value val.Num (bin_reading (range_of kind) order size bytes)
reading_of (until coding stop) bytes = as_value val.Text (until_reading coding stop bytes)
reading_of (fixed coding width) bytes = as_value val.Text (fixed_reading coding width bytes)
reading_of (class coding text) bytes = as_value val.Text (class_reading coding text bytes)
reading_of (char coding) bytes = as_value val.Text (char_reading coding bytes)
reading_of (address coding) bytes = as_value val.Num (ip_reading coding bytes)
reading_of (labelled coding labels) bytes = as_value val.Enum (enum_reading coding labels bytes)
reading_of (packed signed digits) bytes = as_value val.Num (packed_reading digits signed bytes)
reading_of (zoned signed digits) bytes = as_value val.Num (zoned_reading digits signed bytes)

abbrev pub reading_or_bad_param : Option Applied → List ℕ → Read Val
reading_or_bad_param None bytes = Hard cause.BadParam
reading_or_bad_param (Some whole) bytes = reading_of whole bytes

unfoldable pub base_reading : Base → List Arg → List ℕ → Read Val
base_reading base args bytes = reading_or_bad_param (applied base args) bytes
