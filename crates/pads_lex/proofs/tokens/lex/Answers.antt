use Rattle.pads_lex.proofs.CutLaws.{text_is_read, answers_found, answers_fault, answers_only, answers_only_fault, found_ends, found_numbers}
use Rattle.pads_lex.proofs.NameLaws.{found_names}
use Rattle.pads_lex.proofs.tokens.lex.Goals as goal

pub returns-clause-found : goal.returns-clause-found
returns-clause-found c = answers_found c.args.text.now _ _ c.tokens_of.ensures.found (text_is_read c.args.text.now)

pub returns-clause-only : goal.returns-clause-only
returns-clause-only c tokens cut = answers_only c.args.text.now _ tokens c.tokens_of.ensures.found cut

pub returns-clause-fault : goal.returns-clause-fault
returns-clause-fault c = answers_fault c.args.text.now _ _ c.tokens_of.ensures.found (text_is_read c.args.text.now)

pub returns-clause-only_fault : goal.returns-clause-only_fault
returns-clause-only_fault c kind at breaks = answers_only_fault c.args.text.now _ kind at c.tokens_of.ensures.found breaks

pub returns-clause-ends : goal.returns-clause-ends
returns-clause-ends c = found_ends c.args.text.now _ (answers_found c.args.text.now _ _ c.tokens_of.ensures.found (text_is_read c.args.text.now))

pub returns-clause-numbers : goal.returns-clause-numbers
returns-clause-numbers c = found_numbers c.args.text.now _ (answers_found c.args.text.now _ _ c.tokens_of.ensures.found (text_is_read c.args.text.now))

pub returns-clause-names : goal.returns-clause-names
returns-clause-names c = found_names c.args.text.now _ (answers_found c.args.text.now _ _ c.tokens_of.ensures.found (text_is_read c.args.text.now))
