use Rattle.std.proofs.Common.{◌∙◌, sym, ap}
use Rattle.std.proofs.lemmas.Result.{err_from_is_err_and}
use Rattle.pads_grammar.specs.Grammar.{begins}
use Rattle.pads_syntax_path.specs.Paths.{step}
use Rattle.pads_syntax_path.proofs.PathLoops.{steps_go, steps_refuse, steps_shorten}
use Rattle.pads_syntax_path.proofs.reading.steps.Goals as goal

pub steps-smaller : goal.steps-smaller
steps-smaller c = steps_shorten c.steps.cursor c.step.new.cursor c.in_ok-step.field-0 c.in_ok-step.ensures.reads

pub steps-preserved : goal.steps-preserved
steps-preserved c = rw c.in_ok-push.ensures.ok (steps_go _ c.steps.steps c.steps.cursor c.step.new.cursor c.in_ok-step.field-0
    (ap (begins step) (sym c.peek.ensures.kind) ∙ (sym c.begins_step.ensures.begins ∙ c.steps-test.true)) c.in_ok-step.ensures.reads c.steps.invariant)

pub returns-in_err-step : goal.returns-in_err-step
returns-in_err-step c =
    let p = err_from_is_err_and c.from_residual.result c.from_residual.ensures.1 in
    record {
      reads = rw (p.1, p.2) (steps_refuse _ c.steps.steps c.steps.cursor c.step.new.cursor c.in_err-step.field-0.0
          (ap (begins step) (sym c.peek.ensures.kind) ∙ (sym c.begins_step.ensures.begins ∙ c.steps-test.true)) c.in_err-step.ensures.reads c.steps.invariant);
    }
