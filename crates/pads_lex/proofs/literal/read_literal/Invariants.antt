use Rattle.std.proofs.Common.{◌≡◌, ◌-◌, ◌≤◌, [], drop, length}
use Rattle.pads_lex.specs.Literals.{literal_from}
use Rattle.pads_lex.proofs.literal.read_literal.Given as goal

abbrev pub invariant-bytes : goal.invariant-bytes
invariant-bytes l = (literal_from l.quote 0 l.at l.points (drop l.at l.text) ≡ literal_from l.quote 0 0 [] l.text) × (l.at ≤ length l.text)

abbrev pub decreases-bytes : goal.decreases-bytes
decreases-bytes l = length l.text - l.at
