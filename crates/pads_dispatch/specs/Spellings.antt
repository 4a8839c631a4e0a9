-- The canonical spelling of a value as a base type has it; none where the arguments are bad, the value is
-- of another form, or the base type has no spelling of it.
use Rattle.std.specs.Prelude.{ℕ, ℤ, List, Option, Some, None, option_and_then}
use Rattle.pads_value.specs.declared.value.Val.{Val, Val-F, out-Val}
use Rattle.pads_int.specs.Spellings.{int_spelling, int_fw_spelling}
use Rattle.pads_bases.specs.Addresses.{ip_spelling}
use Rattle.pads_bases.specs.Binaries.{bin_spelling}
use Rattle.pads_bases.specs.Classes.{class_spelling}
use Rattle.pads_bases.specs.Enums.{enum_spelling}
use Rattle.pads_bases.specs.Strings.{until_spelling, fixed_spelling, char_spelling}
use Rattle.pads_decimal.specs.Packed.{packed_spelling}
use Rattle.pads_decimal.specs.Zoned.{zoned_spelling}
use Rattle.pads_dispatch.specs.declared.base.Arg.{Arg}
use Rattle.pads_dispatch.specs.declared.base.Base.{Base}
use Rattle.pads_dispatch.specs.Applied.{Applied, applied, integer, field, binary, until, fixed, class, char, address, labelled, packed, zoned}
use Rattle.pads_dispatch.specs.Kinds.{range_of}

-- the number, if the value is one
abbrev pub number_in : Val-F Val → Option ℤ
number_in Val-F.Unit = None
number_in Val-F.Missing = None
number_in (Val-F.Num number) = Some number
number_in (Val-F.Text text) = None
number_in (Val-F.Enum label) = None
number_in (Val-F.Tuple parts) = None
number_in (Val-F.Branch number inner) = None
number_in (Val-F.Array elements) = None

unfoldable pub number_of : Val → Option ℤ
number_of value = number_in (out-Val value)

-- the code points, if the value is a text
abbrev pub text_in : Val-F Val → Option (List ℕ)
text_in Val-F.Unit = None
text_in Val-F.Missing = None
text_in (Val-F.Num number) = None
text_in (Val-F.Text text) = Some text
text_in (Val-F.Enum label) = None
text_in (Val-F.Tuple parts) = None
text_in (Val-F.Branch number inner) = None
text_in (Val-F.Array elements) = None

unfoldable pub text_of : Val → Option (List ℕ)
text_of value = text_in (out-Val value)

-- the label's number, if the value is one
abbrev pub label_in : Val-F Val → Option ℕ
label_in Val-F.Unit = None
label_in Val-F.Missing = None
label_in (Val-F.Num number) = None
label_in (Val-F.Text text) = None
label_in (Val-F.Enum label) = Some label
label_in (Val-F.Tuple parts) = None
label_in (Val-F.Branch number inner) = None
label_in (Val-F.Array elements) = None

unfoldable pub label_of : Val → Option ℕ
label_of value = label_in (out-Val value)

abbrev pub spelling_of : Applied → Val → Option (List ℕ)
spelling_of (integer kind coding) v = option_and_then (int_spelling kind coding) (number_of v)
spelling_of (field kind coding width) v = option_and_then (int_fw_spelling kind coding width) (number_of v)
spelling_of (binary kind order size) v = option_and_then (bin_spelling (range_of kind) order size) (number_of v)
spelling_of (until coding stop) v = option_and_then (until_spelling coding) (text_of v)
spelling_of (fixed coding width) v = option_and_then (fixed_spelling coding width) (text_of v)
spelling_of (class coding text) v = option_and_then (class_spelling coding text) (text_of v)
spelling_of (char coding) v = option_and_then (char_spelling coding) (text_of v)
spelling_of (address coding) v = option_and_then (ip_spelling coding) (number_of v)
spelling_of (labelled coding labels) v = option_and_then (enum_spelling coding labels) (label_of v)
spelling_of (packed signed digits) v = option_and_then (packed_spelling digits signed) (number_of v)
spelling_of (zoned signed digits) v = option_and_then (zoned_spelling digits signed) (number_of v)

unfoldable pub base_spelling : Base → List Arg → Val → Option (List ℕ)
base_spelling base args v = option_and_then (λ whole. spelling_of whole v) (applied base args)
