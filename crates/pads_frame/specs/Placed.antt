-- The frame that lies in the bytes as an extent says.
use Rattle.std.specs.Prelude.{ℕ, ◌+◌, List, take, drop}
use Rattle.pads_value.specs.Cuts.{Cut}
use Rattle.pads_value.specs.Marks.{bytes_of}
use Rattle.pads_frame.specs.declared.discipline.Extent.{Extent}

-- The frame in the bytes from offset `at` on. Marked Long or Broken it carries none of them.
abbrev pub cut_at : ℕ → List ℕ → Extent → Cut
cut_at at bytes extent = record {
  first = at + extent.lead;
  end = at + extent.lead + extent.len;
  bytes = take (bytes_of extent.mark extent.len) (drop extent.lead bytes);
  mark = extent.mark;
}

-- how many bytes of the input it takes up, with its descriptor word and its terminator
abbrev pub size_of : Extent → ℕ
size_of extent = extent.lead + extent.len + extent.terminator

-- the frame that lies so many bytes later in the input
abbrev pub moved : ℕ → Cut → Cut
moved by frame = record frame { first = by + frame.first; end = by + frame.end }
