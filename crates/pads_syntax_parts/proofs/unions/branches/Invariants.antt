use Rattle.std.proofs.Common.{length}
use Rattle.pads_grammar.specs.Grammar.{reads, many}
use Rattle.pads_grammar.proofs.Loops.{Whole}
use Rattle.pads_syntax_parts.specs.Types.{branch}
use Rattle.pads_syntax_parts.proofs.unions.branches.Given as goal

abbrev pub invariant-branches : goal.invariant-branches
invariant-branches l = Whole branch (reads (many branch) l.fn.cursor) l.branches l.cursor

abbrev pub decreases-branches : goal.decreases-branches
decreases-branches l = length l.cursor
