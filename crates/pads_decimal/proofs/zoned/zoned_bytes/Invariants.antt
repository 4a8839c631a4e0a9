use Rattle.std.proofs.Common.{◌≡◌, ◌++◌, ◌-◌, length}
use Rattle.pads_decimal.proofs.SpellingLemmas.{zoned_rest}
use Rattle.pads_decimal.proofs.zoned.zoned_bytes.Given as goal

abbrev pub invariant-loop-done : goal.invariant-loop-done
invariant-loop-done l = record {
  size : length l.bytes.items ≡ l.done;
  rest : l.bytes.items ++ zoned_rest l.number l.sign (l.last - l.done) ≡ zoned_rest l.number l.sign l.last;
}
