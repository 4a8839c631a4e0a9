use Rattle.std.proofs.Common.{◌≡◌, ◌+◌, drop}
use Rattle.pads_lex.specs.Runs.{has_byte, run}
use Rattle.pads_lex.proofs.run.Class.run.Given as goal

abbrev pub invariant-bytes : goal.invariant-bytes
invariant-bytes l = (l.count ≡ l.byte-index) × (l.count + run (has_byte l.self) (drop l.count l.text) ≡ run (has_byte l.self) l.text)
