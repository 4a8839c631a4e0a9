use Rattle.std.proofs.Common.{length}
use Rattle.pads_grammar.specs.Grammar.{reads, many}
use Rattle.pads_grammar.proofs.Loops.{Whole}
use Rattle.pads_syntax.specs.Switches.{case_rule}
use Rattle.pads_syntax.proofs.unions.cases.Given as goal

abbrev pub invariant-cases : goal.invariant-cases
invariant-cases l = Whole case_rule (reads (many case_rule) l.fn.cursor) l.cases l.cursor

abbrev pub decreases-cases : goal.decreases-cases
decreases-cases l = length l.cursor
