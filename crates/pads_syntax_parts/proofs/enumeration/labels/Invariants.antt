use Rattle.std.proofs.Common.{length}
use Rattle.pads_lex.specs.declared.token.Mark.TheVariants.{Comma}
use Rattle.pads_grammar.specs.declared.kind.Kind.TheVariants as kind
use Rattle.pads_grammar.specs.Grammar.{reads}
use Rattle.pads_grammar.proofs.RestLoops.{RestWhole}
use Rattle.pads_syntax_parts.specs.Parts.{label, labels}
use Rattle.pads_syntax_parts.proofs.enumeration.labels.Given as goal

abbrev pub invariant-labels : goal.invariant-labels
invariant-labels l = RestWhole (kind.Mark Comma) label (reads labels l.fn.cursor) l.labels l.cursor

abbrev pub decreases-labels : goal.decreases-labels
decreases-labels l = length l.cursor
