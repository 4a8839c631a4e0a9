use Rattle.std.proofs.Common.{length}
use Rattle.pads_lex.specs.declared.token.Mark.TheVariants.{And}
use Rattle.pads_grammar.specs.Grammar.{reads, ◌*>◌, mark}
use Rattle.pads_grammar.specs.Lists.{listed}
use Rattle.pads_grammar.proofs.Loops.{Whole}
use Rattle.pads_syntax_parts.specs.Parts.{array_option}
use Rattle.pads_syntax_parts.proofs.array.option_list.Given as goal

abbrev pub invariant-more : goal.invariant-more
invariant-more l = Whole (mark And *> array_option) (reads (listed And array_option) l.fn.cursor) l.options l.cursor

abbrev pub decreases-more : goal.decreases-more
decreases-more l = length l.cursor
