use Rattle.std.proofs.Common.{◌≡◌, ◌-◌, ◌≤◌, [], drop, length}
use Rattle.pads_lex.specs.Reading.{tokens_from}
use Rattle.pads_lex.proofs.tokens.tokens_of.Given as goal

abbrev pub invariant-bytes : goal.invariant-bytes
invariant-bytes l = (tokens_from 0 l.at l.tokens (drop l.at l.text) ≡ tokens_from 0 0 [] l.text) × (l.at ≤ length l.text)

abbrev pub decreases-bytes : goal.decreases-bytes
decreases-bytes l = length l.text - l.at
