use Rattle.std.proofs.Common.{◌∙◌, ap, refl}
use Rattle.pads_rules.specs.Judging.{judged}
use Rattle.pads_judge.specs.Judgements.{shown_judgement}
use Rattle.pads_question.proofs.Scopes.{judged_it}
use Rattle.pads_question.proofs.filtering.judge_filter.Goals as goal

pub returns : goal.returns
returns c =
    record {
      judged = c.judge.ensures.judged ∙ ap (λ scope. shown_judgement (judged c.args.env.now c.args.e.now scope)) (judged_it _ _ _ _ _ refl refl refl refl);
    }
