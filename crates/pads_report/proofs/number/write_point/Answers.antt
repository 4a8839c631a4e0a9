use Rattle.std.proofs.Common.{arith}
use Rattle.pads_json.proofs.Texts.{two_bytes}
use Rattle.pads_report.proofs.number.write_point.Goals as goal

pub returns : goal.returns
returns c = record { written = rw (two_bytes c.args.point c.if-point-lt128.false (omega (arith, c.ranges.point.fits))) c.extend_from_slice.ensures.ok }
