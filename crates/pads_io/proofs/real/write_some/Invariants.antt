use Rattle.std.specs.Io.KnownBytes.{Keeps}
use Rattle.pads_io.proofs.real.write_some.Given as goal

-- no try so far moved a byte
abbrev pub invariant-loop : goal.invariant-loop
invariant-loop g l = let contents = g.W.Write.contents in Keeps (contents l.initial.writer) (contents l.writer)
