use Rattle.pads_question.proofs.OneAnswer.{asked_or_refused}
use Rattle.pads_question.proofs.laws.no_question_is_asked_and_refused.Goals as goal

pub returns : goal.returns
returns c = record { not_both = asked_or_refused }
