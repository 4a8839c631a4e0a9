use Rattle.std.proofs.Common.{◌≡◌, ◌++◌, ◌-◌, length}
use Rattle.pads_decimal.proofs.SpellingLemmas.{packed_rest}
use Rattle.pads_decimal.proofs.packed.packed_bytes.Given as goal

abbrev pub invariant-loop-done : goal.invariant-loop-done
invariant-loop-done l = record {
  size : length l.bytes.items ≡ l.done;
  rest : l.bytes.items ++ packed_rest l.number l.sign (l.pairs - l.done) ≡ packed_rest l.number l.sign l.pairs;
}
