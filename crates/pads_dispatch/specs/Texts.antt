-- Which bytes spell a value as a base type has it, by their form alone.
use Rattle.std.specs.Prelude.{◌≡◌, ℕ, List, Some}
use Rattle.pads_value.specs.declared.value.Val.{Val}
use Rattle.pads_value.specs.declared.value.Val.TheVariants as val
use Rattle.pads_int.specs.Texts.{SpellsInt, SpellsIntFw}
use Rattle.pads_bases.specs.Addresses.{SpellsIp}
use Rattle.pads_bases.specs.Binaries.{SpellsBin}
use Rattle.pads_bases.specs.Classes.{SpellsClass}
use Rattle.pads_bases.specs.Enums.{SpellsEnum}
use Rattle.pads_bases.specs.Strings.{SpellsUntil, SpellsFixed, SpellsChar}
use Rattle.pads_decimal.specs.Packed.{SpellsPacked}
use Rattle.pads_decimal.specs.Zoned.{SpellsZoned}
use Rattle.pads_dispatch.specs.declared.base.Arg.{Arg}
use Rattle.pads_dispatch.specs.declared.base.Base.{Base}
use Rattle.pads_dispatch.specs.Applied.{Applied, applied, integer, field, binary, until, fixed, class, char, address, labelled, packed, zoned}
use Rattle.pads_dispatch.specs.Kinds.{range_of}

-- the value is a number, text or label that the bytes spell
pub record Spelled {X : Type 0} (value : X → Val) (Spells : X → List ℕ → Type 0) (v : Val) (bytes : List ℕ) : Type 0 where
  pub content : X
  pub is : v ≡ value content
  pub spelled : Spells content bytes

abbrev pub SpellsApplied : Applied → Val → List ℕ → Type 0
SpellsApplied (integer kind coding) v bytes = Spelled val.Num (SpellsInt kind coding) v bytes
SpellsApplied (field kind coding width) v bytes = Spelled val.Num (SpellsIntFw kind coding width) v bytes
SpellsApplied (binary kind order size) v bytes = Spelled val.Num (SpellsBin (range_of kind) order size) v bytes
SpellsApplied (until coding stop) v bytes = Spelled val.Text (SpellsUntil coding stop) v bytes
SpellsApplied (fixed coding width) v bytes = Spelled val.Text (SpellsFixed coding width) v bytes
SpellsApplied (class coding text) v bytes = Spelled val.Text (SpellsClass coding text) v bytes
SpellsApplied (char coding) v bytes = Spelled val.Text (SpellsChar coding) v bytes
SpellsApplied (address coding) v bytes = Spelled val.Num (SpellsIp coding) v bytes
SpellsApplied (labelled coding labels) v bytes = Spelled val.Enum (SpellsEnum coding labels) v bytes
SpellsApplied (packed signed digits) v bytes = Spelled val.Num (SpellsPacked digits signed) v bytes
SpellsApplied (zoned signed digits) v bytes = Spelled val.Num (SpellsZoned digits signed) v bytes

pub record SpellsBase (base : Base) (args : List Arg) (v : Val) (bytes : List ℕ) : Type 0 where
  pub whole : Applied
  pub is : applied base args ≡ Some whole
  pub spells : SpellsApplied whole v bytes
