use Rattle.pads_describe.proofs.AnswerLaws.{one_tree, one_verdict, not_both}
use Rattle.pads_describe.proofs.laws.each_text_has_one_answer.Goals as goal

pub returns-clause-trees : goal.returns-clause-trees
returns-clause-trees c text one other h k = one_tree text one other h.has_tree k.has_tree

pub returns-clause-verdicts : goal.returns-clause-verdicts
returns-clause-verdicts c text one other h k = one_verdict text one other h k

pub returns-clause-not_both : goal.returns-clause-not_both
returns-clause-not_both c text tree verdict h k = not_both text tree verdict h k
