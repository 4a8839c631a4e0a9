use Rattle.std.proofs.Common.{length}
use Rattle.pads_lex.specs.declared.token.Mark.TheVariants.{Comma}
use Rattle.pads_grammar.specs.Grammar.{reads, ◌*>◌, mark}
use Rattle.pads_grammar.specs.Lists.{listed}
use Rattle.pads_grammar.proofs.Loops.{Whole}
use Rattle.pads_syntax_parts.specs.Types.{arg}
use Rattle.pads_syntax_parts.proofs.types.arg_list.Given as goal

abbrev pub invariant-more : goal.invariant-more
invariant-more l = Whole (mark Comma *> arg) (reads (listed Comma arg) l.fn.cursor) l.args l.cursor

abbrev pub decreases-more : goal.decreases-more
decreases-more l = length l.cursor
