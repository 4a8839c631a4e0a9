-- What the names of base types mean. A name is a prefix, which says the coding or the order of bytes, and
-- what the prefix stands before:
--
--   P  Pa_  Pe_      the ambient coding, ASCII, EBCDIC, before
--                      a kind                     digits, as many as there are
--                      a kind and `_FW`           digits in a field
--                      string                     a text up to a stop or the end
--                      string_FW                  a text in a field
--                      string_in                  the longest text of a class
--                      char, ip                   one character, an address
--   Pb_              before a kind: binary, low byte first, of the kind's size
--   Psbl_  Psbh_     before a kind: binary, low or high byte first, maybe of a size of its own
--
-- Four names are whole: Ppacked, Pupacked, Pzoned, Puzoned, decimals in half bytes, signed and unsigned.
use Rattle.std.specs.Prelude.{ℕ, Bool, true, false, List, [], ◌∷◌, Option, Some, None, option_map, option_and_then, if◌then◌else◌, codes, take, drop, length}
use Rattle.std.specs.Str.{bytes_eq}
use Rattle.pads_value.specs.Words.{find_word}
use Rattle.pads_int.specs.declared.kind.Kind.{Kind}
use Rattle.pads_int.specs.declared.kind.Kind.TheVariants.{I8, I16, I32, I64, U8, U16, U32, U64}
use Rattle.pads_base_names.specs.declared.meaning.BaseName.{BaseName}
use Rattle.pads_base_names.specs.declared.meaning.BaseName.TheVariants as base
use Rattle.pads_base_names.specs.declared.meaning.NamedCoding.{NamedCoding}
use Rattle.pads_base_names.specs.declared.meaning.NamedCoding.TheVariants as coding
use Rattle.pads_bases.specs.declared.binary.Order.{Order}
use Rattle.pads_bases.specs.declared.binary.Order.TheVariants as order
use Rattle.pads_base_names.specs.declared.meaning.Takes.{Takes}
use Rattle.pads_base_names.specs.declared.meaning.Takes.TheVariants as takes_form

abbrev pub kinds : List (List ℕ × Kind)
kinds =
    (codes "int8", I8) ∷ (codes "int16", I16) ∷ (codes "int32", I32) ∷ (codes "int64", I64)
    ∷ (codes "uint8", U8) ∷ (codes "uint16", U16) ∷ (codes "uint32", U32) ∷ (codes "uint64", U64) ∷ []

abbrev pub fields : List (List ℕ × Kind)
fields =
    (codes "int8_FW", I8) ∷ (codes "int16_FW", I16) ∷ (codes "int32_FW", I32) ∷ (codes "int64_FW", I64)
    ∷ (codes "uint8_FW", U8) ∷ (codes "uint16_FW", U16) ∷ (codes "uint32_FW", U32) ∷ (codes "uint64_FW", U64) ∷ []

abbrev pub texts : NamedCoding → List (List ℕ × BaseName)
texts c =
    (codes "string", base.Until c) ∷ (codes "string_FW", base.Fixed c) ∷ (codes "string_in", base.Class c)
    ∷ (codes "char", base.Char c) ∷ (codes "ip", base.Ip c) ∷ []

abbrev pub or_else : Option BaseName → Option BaseName → Option BaseName
or_else (Some name) other = Some name
or_else None other = other

unfoldable pub kind_of : List ℕ → Option Kind
kind_of word = find_word word kinds

unfoldable pub field_of : List ℕ → Option Kind
field_of word = find_word word fields

-- what stands behind a prefix that says the coding
abbrev pub coded : NamedCoding → List ℕ → Option BaseName
coded c word = or_else (option_map (base.Int c) (kind_of word)) (or_else (option_map (base.IntFw c) (field_of word)) (find_word word (texts c)))

abbrev pub binary : List ℕ → Option BaseName
binary word = option_map base.Bin (kind_of word)

abbrev pub sized : Order → List ℕ → Option BaseName
sized o word = option_map (base.SizedBin o) (kind_of word)

-- what stands behind a prefix of a word, where it has that prefix
unfoldable pub behind : List ℕ → List ℕ → Option (List ℕ)
behind prefix word = if bytes_eq (take (length prefix) word) prefix then Some (drop (length prefix) word) else None

abbrev pub prefixed : List ℕ → (List ℕ → Option BaseName) → List ℕ → Option BaseName
prefixed prefix meaning word = option_and_then meaning (behind prefix word)

abbrev pub of_coding : List ℕ → Option BaseName
of_coding word = or_else (prefixed (codes "Pa_") (coded coding.Ascii) word)
    (or_else (prefixed (codes "Pe_") (coded coding.Ebcdic) word) (prefixed (codes "P") (coded coding.Ambient) word))

abbrev pub of_binary : List ℕ → Option BaseName
of_binary word = or_else (prefixed (codes "Pb_") binary word)
    (or_else (prefixed (codes "Psbl_") (sized order.Low) word) (prefixed (codes "Psbh_") (sized order.High) word))

-- the decimals of mainframes, which may be negative or not
abbrev pub decimals : List (List ℕ × BaseName)
decimals =
    (codes "Ppacked", base.Packed true) ∷ (codes "Pupacked", base.Packed false)
    ∷ (codes "Pzoned", base.Zoned true) ∷ (codes "Puzoned", base.Zoned false) ∷ []

-- The base type that a name means.
unfoldable pub base_name : List ℕ → Option BaseName
base_name word = or_else (of_coding word) (or_else (of_binary word) (find_word word decimals))

-- The arguments that a base type takes.
abbrev pub takes : BaseName → Takes
takes (base.Int c kind) = takes_form.Nothing
takes (base.IntFw c kind) = takes_form.Number
takes (base.Bin kind) = takes_form.Nothing
takes (base.SizedBin o kind) = takes_form.NumberOrNothing
takes (base.Until c) = takes_form.TextOrEnd
takes (base.Fixed c) = takes_form.Number
takes (base.Class c) = takes_form.Text
takes (base.Char c) = takes_form.Nothing
takes (base.Ip c) = takes_form.Nothing
takes (base.Packed signed) = takes_form.Number
takes (base.Zoned signed) = takes_form.Number
