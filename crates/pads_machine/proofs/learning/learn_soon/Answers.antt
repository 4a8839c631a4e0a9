use Rattle.std.proofs.Common.{◌∙◌, Some, ap}
use Rattle.pads_calc.specs.declared.reading.Reading.{Reading}
use Rattle.pads_steps.specs.Records.{subject_of}
use Rattle.pads_machine.specs.Known.{outcome_with}
use Rattle.pads_machine.proofs.learning.learn_soon.Goals as goal

pub returns-in-Ends-clause-knows : goal.returns-in-Ends-clause-knows
returns-in-Ends-clause-knows c =
    let code = c.args.program.now.code.now in
    c.keep.ensures.knows code c.args.program.now.entries.now (subject_of c.args.program.now.record) c.requires.knows
    (λ decls is.
    c.outcome-outcome.ensures.outcome
    ∙ ap (λ (r : Reading). outcome_with code c.args.call.constraint r) (c.in_ok-tried.ensures.read (c.in-Some.is ∙ ap (λ tried. Some tried) c.in-Ends.is) decls is))
