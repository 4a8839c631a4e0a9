use Rattle.std.proofs.Common.{ap, length, arith}
use Rattle.pads_selftest.proofs.Made.{bytes-more}
use Rattle.pads_selftest.proofs.making.bytes_made.Goals as goal

pub records-preserved : goal.records-preserved
records-preserved c =
    let here = ap length c.made_record.ensures.line in
    record {
      bytes = omega (arith, bytes-more c.records.number, here, c.records.invariant.bytes, c.len.ensures.value);
      few = omega (arith, c.records.invariant.few, c.len.ensures.value, c.len.ensures.fits);
    }
