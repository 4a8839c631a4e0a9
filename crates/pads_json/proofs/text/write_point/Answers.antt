use Rattle.std.proofs.Common.{arith}
use Rattle.pads_json.proofs.Texts.{low_written, high_written}
use Rattle.pads_json.proofs.text.write_point.Goals as goal

pub returns-then-point-lt128 : goal.returns-then-point-lt128
returns-then-point-lt128 c = record { written = rw (low_written c.args.point c.if-point-lt128.true) c.write_byte.ensures.written }

pub returns : goal.returns
returns c = record { written = rw (high_written c.args.point c.if-point-lt128.false (omega (arith, c.ranges.point.fits))) c.extend_from_slice.ensures.ok }
