-- What a base type reads has its sort.
use Rattle.std.proofs.Common.{◌≡◌, ◌∙◌, refl, ℕ, zero, suc, ◌<◌, ℤ, true, List, [], ◌∷◌, length, Option, Some, None, slice_get, option_map, option_and_then, arith}
use Rattle.std.proofs.lemmas.Bool.{lt-ltb}
use Rattle.std.specs.Prelude.{⊤}
use Rattle.pads_value.specs.declared.reading.Read.{Read}
use Rattle.pads_value.specs.declared.reading.Read.TheVariants.{Good, Soft, Hard}
use Rattle.pads_value.specs.declared.value.Val.{Val}
use Rattle.pads_value.specs.declared.value.Val.TheVariants as val
use Rattle.pads_code.specs.declared.Coding.{Coding}
use Rattle.pads_bases.specs.declared.enums.Label.{Label}
use Rattle.pads_bases.specs.Enums.{enum_reading}
use Rattle.pads_bases.proofs.ChoiceLaws.{enum_spelled}
use Rattle.pads_dispatch.specs.declared.base.Arg.{Arg}
use Rattle.pads_dispatch.specs.declared.base.Base.{Base}
use Rattle.pads_dispatch.specs.declared.base.Base.TheVariants as base
use Rattle.pads_dispatch.specs.Applied.{Applied, integer, field, binary, until, fixed, class, char, address, labelled, packed, zoned, alone, number_in, text_in, size_in, stop_in}
use Rattle.pads_dispatch.specs.Readings.{as_value, reading_of, reading_or_bad_param, base_reading}
use Rattle.law_calculus.specs.Sorts.{Sort, Number, Text, Labels, base_sort}
use Rattle.law_calculus.specs.Values.{has_sort}
use Rattle.law_calculus.proofs.Values.{has-Num, has-Text, has-Enum}

pub there-below : {A : Type 0} (xs : List A) (n : ℕ) (x : A) → slice_get xs n ≡ Some x → n < length xs
there-below [] n x there = cc
there-below (y ∷ xs) zero x there = omega arith
there-below (y ∷ xs) (suc n) x there = omega (arith, there-below xs n x there)

module _ (declared : List Sort) where
  -- the value that is read, if one is, has the sort
  abbrev pub ReadHas : Sort → Read Val → Type 0
  ReadHas sort (Good size value) = has_sort declared value sort ≡ true
  ReadHas sort (Soft size cause) = ⊤
  ReadHas sort (Hard cause) = ⊤

  as-value : {X : Type 0} (make : X → Val) (sort : Sort) (read : Read X) → ((size : ℕ) (x : X) → read ≡ Good size x → has_sort declared (make x) sort ≡ true)
      → ReadHas sort (as_value make read)
  as-value make sort (Good size x) h = h size x refl
  as-value make sort (Soft size cause) h = tt
  as-value make sort (Hard cause) h = tt

  numbers : (read : Read ℤ) → ReadHas Number (as_value val.Num read)
  numbers read = as-value val.Num Number read (λ size x is. has-Num declared x)

  texts : (read : Read (List ℕ)) → ReadHas Text (as_value val.Text read)
  texts read = as-value val.Text Text read (λ size x is. has-Text declared x)

  labels-read : (coding : Coding) (labels : List Label) (bytes : List ℕ) → ReadHas (Labels (length labels)) (as_value val.Enum (enum_reading coding labels bytes))
  labels-read coding labels bytes = as-value val.Enum (Labels (length labels)) (enum_reading coding labels bytes) (λ size label is.
      let spelled = enum_spelled coding labels bytes size label is in
      has-Enum declared label (length labels) ∙ lt-ltb label (length labels) (there-below labels label spelled.label spelled.is))

  -- each base type with its arguments
  alone-has : (sort : Sort) (whole : Applied) (args : List Arg) (bytes : List ℕ) → ReadHas sort (reading_of whole bytes) → ReadHas sort (reading_or_bad_param (alone whole args) bytes)
  alone-has sort whole [] bytes h = h
  alone-has sort whole (first ∷ more) bytes h = tt

  with-has : {X : Type 0} (sort : Sort) (make : X → Applied) (arg : Option X) (bytes : List ℕ) → ((x : X) → ReadHas sort (reading_of (make x) bytes))
      → ReadHas sort (reading_or_bad_param (option_map make arg) bytes)
  with-has sort make None bytes h = tt
  with-has sort make (Some x) bytes h = h x

  pub base-has : (b : Base) (args : List Arg) (bytes : List ℕ) → ReadHas (base_sort b) (base_reading b args bytes)
  unfolding base_reading
  base-has (base.Int kind coding) args bytes = alone-has Number (integer kind coding) args bytes (numbers _)
  base-has (base.IntFw kind coding) args bytes = with-has Number (λ width. field kind coding width) (number_in args) bytes (λ width. numbers _)
  base-has (base.Bin kind order) args bytes = with-has Number (λ size. binary kind order size) (size_in kind args) bytes (λ size. numbers _)
  base-has (base.Until coding) args bytes = with-has Text (λ stop. until coding (Some stop)) (option_and_then stop_in (text_in args)) bytes (λ stop. texts _)
  base-has (base.UntilEor coding) args bytes = alone-has Text (until coding None) args bytes (texts _)
  base-has (base.Fixed coding) args bytes = with-has Text (λ width. fixed coding width) (number_in args) bytes (λ width. texts _)
  base-has (base.Class coding) args bytes = with-has Text (λ text. class coding text) (text_in args) bytes (λ text. texts _)
  base-has (base.Char coding) args bytes = alone-has Text (char coding) args bytes (texts _)
  base-has (base.Ip coding) args bytes = alone-has Number (address coding) args bytes (numbers _)
  base-has (base.Enum coding labels) args bytes = alone-has (Labels (length labels)) (labelled coding labels) args bytes (labels-read coding labels bytes)
  base-has (base.Packed signed) args bytes = with-has Number (λ digits. packed signed digits) (number_in args) bytes (λ digits. numbers _)
  base-has (base.Zoned signed) args bytes = with-has Number (λ digits. zoned signed digits) (number_in args) bytes (λ digits. numbers _)
