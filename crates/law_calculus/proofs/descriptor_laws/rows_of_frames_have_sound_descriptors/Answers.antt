use Rattle.std.proofs.Common.{length, ◌≡◌, ℕ, ◌+◌, ◌-◌, ◌≤◌, arith}
use Rattle.pads_value.specs.Marks.{bytes_of}
use Rattle.pads_value.specs.declared.frame.Mark.{Mark}
use Rattle.pads_value.specs.declared.frame.Mark.TheVariants as mark
use Rattle.law_calculus.proofs.SoundRows.{sound-row_counts, sound-row_spans}
use Rattle.law_calculus.proofs.descriptor_laws.rows_of_frames_have_sound_descriptors.Goals as goal

-- a frame's bytes lie in its extent
within_extent : (m : Mark) (first end size : ℕ) → first ≤ end → size ≡ bytes_of m (end - first) → first + size ≤ end
within_extent mark.Plain first end size ordered is = omega arith
within_extent mark.Short first end size ordered is = omega arith
within_extent mark.Long first end size ordered is = omega arith
within_extent mark.Broken first end size ordered is = omega arith

pub returns : goal.returns
returns c = record {
  counts = λ decls shape scan number. sound-row_counts decls shape scan number _;
  spans = λ decls shape scan number. sound-row_spans decls shape scan number _
      (within_extent c.args.frame.now.mark c.args.frame.now.first c.args.frame.now.end (length c.args.frame.now.bytes.now) (omega arith) (omega arith));
}
