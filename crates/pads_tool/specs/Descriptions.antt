-- A description's file.
use Rattle.std.specs.Prelude.{ℕ, nat_le, if◌then◌else◌, List, length}
use Rattle.pads_tool.specs.declared.description.Described.{Described}
use Rattle.pads_tool.specs.declared.description.Described.TheVariants as described

-- what a file with these bytes is: a text, or longer than a description may be
abbrev pub described_by : List ℕ → Described
described_by bytes = if nat_le (length bytes) 1048576 then described.Text bytes else described.TooLong
