use Rattle.std.proofs.Common.{length}
use Rattle.pads_grammar.specs.Grammar.{reads, many}
use Rattle.pads_grammar.proofs.Loops.{Whole}
use Rattle.pads_syntax.specs.Declarations.{decl}
use Rattle.pads_syntax.proofs.declaration.decls.Given as goal

abbrev pub invariant-decls : goal.invariant-decls
invariant-decls l = Whole decl (reads (many decl) l.fn.cursor) l.decls l.cursor

abbrev pub decreases-decls : goal.decreases-decls
decreases-decls l = length l.cursor
