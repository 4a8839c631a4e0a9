use Rattle.pads_syntax.proofs.Trees.{one_tree_fault, one_filter_fault}
use Rattle.pads_syntax.proofs.laws.tokens_fault_at_one_place.Goals as goal

pub returns-clause-descriptions : goal.returns-clause-descriptions
returns-clause-descriptions c tokens one other = one_tree_fault tokens one other

pub returns-clause-filters : goal.returns-clause-filters
returns-clause-filters c tokens one other = one_filter_fault tokens one other
