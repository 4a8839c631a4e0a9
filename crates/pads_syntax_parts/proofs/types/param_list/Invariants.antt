use Rattle.std.proofs.Common.{length}
use Rattle.pads_lex.specs.declared.token.Mark.TheVariants.{Comma}
use Rattle.pads_grammar.specs.Grammar.{reads, ◌*>◌, mark}
use Rattle.pads_grammar.specs.Lists.{listed}
use Rattle.pads_grammar.proofs.Loops.{Whole}
use Rattle.pads_syntax_parts.specs.Types.{param}
use Rattle.pads_syntax_parts.proofs.types.param_list.Given as goal

abbrev pub invariant-more : goal.invariant-more
invariant-more l = Whole (mark Comma *> param) (reads (listed Comma param) l.fn.cursor) l.params l.cursor

abbrev pub decreases-more : goal.decreases-more
decreases-more l = length l.cursor
