use Rattle.std.specs.Io.KnownBytes.{Keeps}
use Rattle.pads_io.proofs.real.read_some.Given as goal

-- no try so far moved a byte
abbrev pub invariant-loop : goal.invariant-loop
invariant-loop g l = let remaining = g.R.Read.remaining in Keeps (remaining l.initial.reader) (remaining l.reader)
