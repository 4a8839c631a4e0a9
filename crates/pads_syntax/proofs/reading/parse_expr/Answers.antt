use Rattle.pads_syntax_parts.specs.Types.{expression}
use Rattle.pads_syntax.proofs.Trees.{filter_ok}
use Rattle.pads_syntax.specs.Trees.{filter}
use Rattle.pads_syntax.proofs.Answered.{answer_found, answer_only, answer_fault, answer_place}
use Rattle.pads_syntax.proofs.reading.parse_expr.Goals as goal

pub returns-clause-found : goal.returns-clause-found
returns-clause-found c = answer_found expression filter filter_ok c.args.tokens.now c.filter.result c.filter.ensures.answers

pub returns-clause-only : goal.returns-clause-only
returns-clause-only c = answer_only expression filter filter_ok c.args.tokens.now c.filter.result c.filter.ensures.answers

pub returns-clause-fault : goal.returns-clause-fault
returns-clause-fault c = answer_fault expression filter filter_ok c.args.tokens.now c.filter.result c.filter.ensures.answers

pub returns-clause-place : goal.returns-clause-place
returns-clause-place c = answer_place expression filter filter_ok c.args.tokens.now c.filter.result c.filter.ensures.answers
