use Rattle.pads_syntax.proofs.SpelledWhole.{tree-spelled}
use Rattle.pads_syntax.proofs.Trees.{only_given, none_given}
use Rattle.pads_syntax.proofs.reading.parse.Goals as goal

pub invariant_of-result : goal.invariant_of-result
invariant_of-result c = record { spelled = tree-spelled c.args.tokens.now (c.in-Ok.decls, c.in-Ok.end) c.in-Ok.ensures.answers c.requires.names }

pub returns-in-Ok-clause-only : goal.returns-in-Ok-clause-only
returns-in-Ok-clause-only c tree whole = only_given c.args.tokens.now _ tree c.in-Ok.ensures.answers whole

pub returns-in-Err-clause-only : goal.returns-in-Err-clause-only
returns-in-Err-clause-only c tree whole = none_given c.args.tokens.now c.in-Err.refusal c.in-Err.ensures.answers tree whole
