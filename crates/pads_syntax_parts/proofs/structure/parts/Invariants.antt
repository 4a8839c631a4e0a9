use Rattle.std.proofs.Common.{length}
use Rattle.pads_grammar.specs.Grammar.{reads, many}
use Rattle.pads_grammar.proofs.Loops.{Whole}
use Rattle.pads_syntax_parts.specs.Parts.{part}
use Rattle.pads_syntax_parts.proofs.structure.parts.Given as goal

abbrev pub invariant-parts : goal.invariant-parts
invariant-parts l = Whole part (reads (many part) l.fn.cursor) l.parts l.cursor

abbrev pub decreases-parts : goal.decreases-parts
decreases-parts l = length l.cursor
