use Rattle.pads_describe.proofs.AnswerLaws.{one_description, not_refused}
use Rattle.pads_describe.proofs.laws.each_text_describes_one_module.Goals as goal

pub returns-clause-modules : goal.returns-clause-modules
returns-clause-modules c text coding one other h k = one_description text coding one other h k

pub returns-clause-not_both : goal.returns-clause-not_both
returns-clause-not_both c text coding made verdict h k = not_refused text coding made verdict h k
