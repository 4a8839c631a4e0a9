-- A base type with its arguments: which number and sorts of arguments each base type takes. A binary
-- integer without an argument has its kind's size; a stop character is a text of one code point.
use Rattle.std.specs.Prelude.{ℕ, ℤ, pos, Bool, List, [], ◌∷◌, Option, Some, None, option_map, option_and_then}
use Rattle.pads_code.specs.declared.Coding.{Coding}
use Rattle.pads_int.specs.declared.kind.Kind.{Kind}
use Rattle.pads_bases.specs.declared.binary.Order.{Order}
use Rattle.pads_bases.specs.declared.enums.Label.{Label}
use Rattle.pads_dispatch.specs.declared.base.Arg.{Arg}
use Rattle.pads_dispatch.specs.declared.base.Arg.TheVariants as arg
use Rattle.pads_dispatch.specs.declared.base.Base.{Base}
use Rattle.pads_dispatch.specs.declared.base.Base.TheVariants as base
use Rattle.pads_dispatch.specs.Kinds.{size_of}

pub data Applied : Type 0 where
  integer : Kind → Coding → Applied
  -- with the field's width
  field : Kind → Coding → ℤ → Applied
  -- with the number of bytes
  binary : Kind → Order → ℤ → Applied
  -- with the stop character, if there is one
  until : Coding → Option ℕ → Applied
  -- with the field's width
  fixed : Coding → ℤ → Applied
  -- with the class text
  class : Coding → List ℕ → Applied
  char : Coding → Applied
  address : Coding → Applied
  labelled : Coding → List Label → Applied
  -- whether it may be negative, with the number of digits
  packed : Bool → ℤ → Applied
  zoned : Bool → ℤ → Applied

-- no argument
abbrev pub alone : Applied → List Arg → Option Applied
alone whole [] = Some whole
alone whole (first ∷ more) = None

-- one number
abbrev pub number_in : List Arg → Option ℤ
number_in [] = None
number_in (arg.Num number ∷ []) = Some number
number_in (arg.Text text ∷ []) = None
number_in (first ∷ second ∷ more) = None

-- one text
abbrev pub text_in : List Arg → Option (List ℕ)
text_in [] = None
text_in (arg.Num number ∷ []) = None
text_in (arg.Text text ∷ []) = Some text
text_in (first ∷ second ∷ more) = None

-- one number, or none, which stands for the kind's size
abbrev pub size_in : Kind → List Arg → Option ℤ
size_in kind [] = Some (pos (size_of kind))
size_in kind (first ∷ more) = number_in (first ∷ more)

-- the one code point of a text
abbrev pub stop_in : List ℕ → Option ℕ
stop_in [] = None
stop_in (stop ∷ []) = Some stop
stop_in (first ∷ second ∷ more) = None

-- none where the arguments are of a wrong number or sort
abbrev pub applied : Base → List Arg → Option Applied
applied (base.Int kind coding) args = alone (integer kind coding) args
applied (base.IntFw kind coding) args = option_map (λ width. field kind coding width) (number_in args)
applied (base.Bin kind order) args = option_map (λ size. binary kind order size) (size_in kind args)
applied (base.Until coding) args = option_map (λ stop. until coding (Some stop)) (option_and_then stop_in (text_in args))
applied (base.UntilEor coding) args = alone (until coding None) args
applied (base.Fixed coding) args = option_map (λ width. fixed coding width) (number_in args)
applied (base.Class coding) args = option_map (λ text. class coding text) (text_in args)
applied (base.Char coding) args = alone (char coding) args
applied (base.Ip coding) args = alone (address coding) args
applied (base.Enum coding labels) args = alone (labelled coding labels) args
applied (base.Packed signed) args = option_map (λ digits. packed signed digits) (number_in args)
applied (base.Zoned signed) args = option_map (λ digits. zoned signed digits) (number_in args)
