use Rattle.pads_syntax_path.proofs.Answered.{answer_found, answer_only, answer_fault, answer_place}
use Rattle.pads_syntax_path.proofs.whole.parse_path.Goals as goal

pub returns-clause-found : goal.returns-clause-found
returns-clause-found c = answer_found c.args.tokens.now c.whole_path.result c.whole_path.ensures.answers

pub returns-clause-only : goal.returns-clause-only
returns-clause-only c = answer_only c.args.tokens.now c.whole_path.result c.whole_path.ensures.answers

pub returns-clause-fault : goal.returns-clause-fault
returns-clause-fault c = answer_fault c.args.tokens.now c.whole_path.result c.whole_path.ensures.answers

pub returns-clause-place : goal.returns-clause-place
returns-clause-place c = answer_place c.args.tokens.now c.whole_path.result c.whole_path.ensures.answers
