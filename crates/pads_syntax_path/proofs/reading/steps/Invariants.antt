use Rattle.std.proofs.Common.{◌++◌, Ok, length}
use Rattle.pads_grammar.specs.Grammar.{reads, many, then_read}
use Rattle.pads_grammar.proofs.Loops.{Whole}
use Rattle.pads_syntax_path.specs.Paths.{step}
use Rattle.pads_syntax_path.proofs.reading.steps.Given as goal

abbrev pub invariant-steps : goal.invariant-steps
invariant-steps l = Whole step (then_read (reads (many step) l.fn.cursor) (λ more rest. Ok (l.fn.first ++ more, rest))) l.steps l.cursor

abbrev pub decreases-steps : goal.decreases-steps
decreases-steps l = length l.cursor
