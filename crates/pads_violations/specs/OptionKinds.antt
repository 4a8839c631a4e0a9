-- Kinds of array options.
use Rattle.std.specs.Prelude.{Bool, true}
use Rattle.pads_ast.specs.declared.decl.ArrayOption.{ArrayOption}
use Rattle.pads_ast.specs.declared.decl.ArrayOption.TheVariants as array_option
use Rattle.pads_violations.specs.declared.repeats.Kinds.{Kinds}

-- An option's kind is one of some.
abbrev pub has_kind : Kinds → ArrayOption → Bool
has_kind kinds (array_option.Psep at separator) = kinds.separator
has_kind kinds (array_option.Pterm at terminator) = kinds.terminator
has_kind kinds (array_option.Plast at condition) = kinds.last

-- Some kinds and that of an option.
abbrev pub with_kind : Kinds → ArrayOption → Kinds
with_kind kinds (array_option.Psep at separator) = record { separator = true; terminator = kinds.terminator; last = kinds.last }
with_kind kinds (array_option.Pterm at terminator) = record { separator = kinds.separator; terminator = true; last = kinds.last }
with_kind kinds (array_option.Plast at condition) = record { separator = kinds.separator; terminator = kinds.terminator; last = true }
