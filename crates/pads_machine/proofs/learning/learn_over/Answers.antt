use Rattle.std.proofs.Common.{◌∙◌, Some, ap, subst, sym}
use Rattle.pads_steps.specs.Records.{subject_of}
use Rattle.pads_machine.specs.declared.known.Known.{Known}
use Rattle.pads_calc.specs.declared.reading.Reading.{Reading}
use Rattle.pads_machine.specs.Known.{Knows, outcome_with}
use Rattle.pads_machine.proofs.learning.learn_over.Goals as goal
use Rattle.pads_machine.proofs.learning.learn_over.Goals.{in-Asks+in_ok-push-in-Asks+in_ok-push-in-Asks-2, in-Ends}

pub tries-preserved : goal.tries-preserved
tries-preserved c =
    let code = c.args.program.now.code.now in
    let entries = c.args.program.now.entries.now in
    let subject = subject_of c.args.program.now.record in
    record {
      knows = elim c.match-tried.branch [
        | in-Asks+in_ok-push-in-Asks+in_ok-push-in-Asks-2 w ↦ subst (λ (known : Known). Knows code entries subject known) (sym w.known-is) c.tries.invariant.knows
        | in-Ends w ↦
            subst (λ (known : Known). Knows code entries subject known) (sym w.known-is)
            (w.keep.ensures.knows code entries subject c.tries.invariant.knows
            (λ decls is.
            w.outcome-outcome.ensures.outcome
            ∙ ap (λ (r : Reading). outcome_with code c.in-Some.call.constraint r) (c.in_ok-tried.ensures.read (c.in-Some-2.is ∙ ap (λ tried. Some tried) w.in-Ends.is) decls is)))
      ];
      spare = c.in_ok-tried.ensures.spare;
    }
