-- What a base type reads without a fault has a canonical spelling that is no longer, and that spells it.
use Rattle.std.proofs.Common.{◌≡◌, ◌∙◌, sym, ap, refl, subst, arith, ℕ, ◌≤◌, pos, ◌≤ℤ◌, List, [], ◌∷◌, length, take, length-take-le, Option, None, Some, option_map, IsSomeAnd}
use Rattle.std.specs.Option.{option_and_then}
use Rattle.std.proofs.Math.Seq.{take-length}
use Rattle.std.proofs.lemmas.Int.{ints}
use Rattle.pads_value.specs.declared.reading.Read.TheVariants.{Good}
use Rattle.pads_value.specs.declared.value.Val.{Val}
use Rattle.pads_int.specs.Spellings.{widest}
use Rattle.pads_dispatch.specs.declared.base.Arg.{Arg}
use Rattle.pads_dispatch.specs.declared.base.Base.{Base}
use Rattle.pads_dispatch.specs.declared.base.Base.TheVariants as base
use Rattle.pads_dispatch.specs.Applied.{Applied, alone, size_in, number_in, text_in, stop_in, integer, field, binary, until, fixed, class, char, address, labelled, packed, zoned}
use Rattle.pads_dispatch.specs.Conditions.{Holds, IsNarrow, HasNoStopOf, LabelsDiffer}
use Rattle.pads_dispatch.specs.Readings.{base_reading}
use Rattle.pads_dispatch.specs.Spellings.{base_spelling, text_of}
use Rattle.pads_dispatch.specs.Texts.{SpellsApplied, SpellsBase}
use Rattle.pads_dispatch.proofs.BaseLaws.{base_within, base_spelled, base_canonical, base_canonical_reads_back}
use Rattle.pads_dispatch.proofs.Values.{text_of-Text}
use Rattle.law_calculus.specs.Plain.{HasPlainLabels}

-- a field is as wide as what spells it
narrow : (whole : Applied) (v : Val) (bytes : List ℕ) → SpellsApplied whole v bytes → length bytes ≤ widest → IsNarrow whole
narrow (integer kind coding) v bytes spells fits = tt
narrow (field kind coding width) v bytes spells fits = let bound : pos (length bytes) ≤ℤ pos widest = grind (arith, ints) in rw spells.spelled.fills bound
narrow (binary kind order size) v bytes spells fits = tt
narrow (until coding stop) v bytes spells fits = tt
narrow (fixed coding width) v bytes spells fits = let bound : pos (length bytes) ≤ℤ pos widest = grind (arith, ints) in rw spells.spelled.fills bound
narrow (class coding text) v bytes spells fits = tt
narrow (char coding) v bytes spells fits = tt
narrow (address coding) v bytes spells fits = tt
narrow (labelled coding labels) v bytes spells fits = tt
narrow (packed signed digits) v bytes spells fits = tt
narrow (zoned signed digits) v bytes spells fits = tt

-- what spells a text up to a stop character has none
unstopped : (whole : Applied) (v : Val) (bytes : List ℕ) → SpellsApplied whole v bytes → HasNoStopOf whole v
unstopped (integer kind coding) v bytes spells = tt
unstopped (field kind coding width) v bytes spells = tt
unstopped (binary kind order size) v bytes spells = tt
unstopped (until coding stop) v bytes spells = λ text is. (
    let one : Some spells.content ≡ Some text = sym (text_of-Text spells.content) ∙ ap text_of (sym spells.is ∙ is) ∙ text_of-Text text in
    let same : spells.content ≡ text = cc in
    rw (← same) spells.spelled.no_stop)
unstopped (fixed coding width) v bytes spells = tt
unstopped (class coding text) v bytes spells = tt
unstopped (char coding) v bytes spells = tt
unstopped (address coding) v bytes spells = tt
unstopped (labelled coding labels) v bytes spells = tt
unstopped (packed signed digits) v bytes spells = tt
unstopped (zoned signed digits) v bytes spells = tt

-- a plain base type's labels differ, whatever its arguments
alone-differs : (whole : Applied) → LabelsDiffer whole → (args : List Arg) (found : Applied) → alone whole args ≡ Some found → LabelsDiffer found
alone-differs whole differ [] found is = let same : whole ≡ found = cc in subst LabelsDiffer same differ
alone-differs whole differ (first ∷ more) found is = absurd cc

each-differs : {X : Type 0} (of : X → Applied) → ((x : X) → LabelsDiffer (of x)) → (given : Option X) (found : Applied) → option_map of given ≡ Some found → LabelsDiffer found
each-differs of differ None found is = absurd cc
each-differs of differ (Some x) found is = let same : of x ≡ found = cc in subst LabelsDiffer same (differ x)

labels-differ : (base : Base) → HasPlainLabels base → (args : List Arg) → Holds base args LabelsDiffer
labels-differ (base.Int kind coding) labels args = alone-differs (integer kind coding) tt args
labels-differ (base.IntFw kind coding) labels args = each-differs (λ width. field kind coding width) (λ width. tt) (number_in args)
labels-differ (base.Bin kind order) labels args = each-differs (λ size. binary kind order size) (λ size. tt) (size_in kind args)
labels-differ (base.Until coding) labels args = each-differs (λ stop. until coding (Some stop)) (λ stop. tt) (option_and_then stop_in (text_in args))
labels-differ (base.UntilEor coding) labels args = alone-differs (until coding None) tt args
labels-differ (base.Fixed coding) labels args = each-differs (λ width. fixed coding width) (λ width. tt) (number_in args)
labels-differ (base.Class coding) labels args = each-differs (λ text. class coding text) (λ text. tt) (text_in args)
labels-differ (base.Char coding) labels args = alone-differs (char coding) tt args
labels-differ (base.Ip coding) labels args = alone-differs (address coding) tt args
labels-differ (base.Enum coding labels) differ args = alone-differs (labelled coding labels) differ args
labels-differ (base.Packed signed) labels args = each-differs (λ digits. packed signed digits) (λ digits. tt) (number_in args)
labels-differ (base.Zoned signed) labels args = each-differs (λ digits. zoned signed digits) (λ digits. tt) (number_in args)

-- the canonical spelling of what was read in so many bytes
pub record BaseBytes (base : Base) (args : List Arg) (n : ℕ) (v : Val) : Type 0 where
  pub bytes : List ℕ
  pub is : base_spelling base args v ≡ Some bytes
  pub short : length bytes ≤ n
  pub spells : SpellsBase base args v bytes

module _ (base : Base) (args : List Arg) (rest : List ℕ) (n : ℕ) (v : Val) (labels : HasPlainLabels base) (fits : length rest ≤ widest)
    (reads : base_reading base args rest ≡ Good n v) where
  read : SpellsBase base args v (take n rest)
  read = base_spelled base args rest n v reads

  -- what holds of the base type with its arguments that was read
  applies : (P : Applied → Type 0) → P read.whole → Holds base args P
  applies P h whole is = let both = sym read.is ∙ is in let same : read.whole ≡ whole = cc in subst P same h

  taken : length (take n rest) ≤ widest
  taken = omega (arith, fits, length-take-le n rest (base_within base args rest n v reads), base_within base args rest n v reads)

  by-spelling : (found : Option (List ℕ)) → base_spelling base args v ≡ found → IsSomeAnd found (λ bytes. length bytes ≤ n) → BaseBytes base args n v
  by-spelling None is short = absurd short
  by-spelling (Some bytes) is short =
      let free = applies (λ whole. HasNoStopOf whole v) (unstopped read.whole v (take n rest) read.spells) in
      let back = base_canonical_reads_back base args v bytes (labels-differ base labels args) free is in
      record {
        bytes = bytes;
        is = is;
        short = short;
        spells = subst (SpellsBase base args v) (take-length bytes) (base_spelled base args bytes (length bytes) v back);
      }

  pub base-bytes : BaseBytes base args n v
  base-bytes =
      by-spelling (base_spelling base args v) refl
      (base_canonical base args rest n v (applies IsNarrow (narrow read.whole v (take n rest) read.spells taken)) reads)
