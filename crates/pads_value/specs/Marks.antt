-- How many bytes a frame carries, by its mark: its whole extent, or none where it is not read.
use Rattle.std.specs.Prelude.{ℕ}
use Rattle.pads_value.specs.declared.frame.Mark.{Mark}
use Rattle.pads_value.specs.declared.frame.Mark.TheVariants as mark

abbrev pub bytes_of : Mark → ℕ → ℕ
bytes_of mark.Plain extent = extent
bytes_of mark.Short extent = extent
bytes_of mark.Long extent = 0
bytes_of mark.Broken extent = 0
