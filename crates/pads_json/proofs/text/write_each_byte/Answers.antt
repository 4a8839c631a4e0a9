use Rattle.std.proofs.Common.{arith}
use Rattle.pads_json.proofs.Texts.{byte_next}
use Rattle.pads_json.proofs.text.write_each_byte.Goals as goal

pub bytes-preserved : goal.bytes-preserved
bytes-preserved c =
    rw c.in_ok-write_byte.ensures.written (byte_next c.args.text.now _ _ c.bytes.byte-index _ _ (omega arith) (omega (arith, c.bytes-test.true)) c.bytes.invariant)
