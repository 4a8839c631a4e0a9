-- The kinds of integers as binary integers have them: the range of their numbers, and their usual size.
use Rattle.std.specs.Prelude.{ℕ}
use Rattle.pads_int.specs.declared.kind.Kind.{Kind}
use Rattle.pads_int.specs.declared.kind.Kind.TheVariants.{I8, I16, I32, I64, U8, U16, U32, U64}
use Rattle.pads_int.specs.Kinds.{least, greatest}
use Rattle.pads_bases.specs.declared.binary.Range.{Range}

abbrev pub range_of : Kind → Range
range_of kind = record { low = least kind; high = greatest kind }

-- in bytes
abbrev pub size_of : Kind → ℕ
size_of I8 = 1
size_of I16 = 2
size_of I32 = 4
size_of I64 = 8
size_of U8 = 1
size_of U16 = 2
size_of U32 = 4
size_of U64 = 8
