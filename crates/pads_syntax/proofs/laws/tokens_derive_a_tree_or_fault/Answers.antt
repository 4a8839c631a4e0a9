use Rattle.pads_syntax.proofs.DeclDecides.{decls_ok}
use Rattle.pads_syntax.proofs.TreeLaws.{tree_or_fault}
use Rattle.pads_syntax.specs.Declarations.{decls}
use Rattle.pads_syntax.specs.Trees.{description}
use Rattle.pads_syntax.proofs.Trees.{description_or_fault, filter_or_fault}
use Rattle.pads_syntax.proofs.laws.tokens_derive_a_tree_or_fault.Goals as goal

pub returns-clause-declarations : goal.returns-clause-declarations
returns-clause-declarations c tokens ends = tree_or_fault decls description decls_ok tokens ends

pub returns-clause-descriptions : goal.returns-clause-descriptions
returns-clause-descriptions c tokens ends names = description_or_fault tokens ends names

pub returns-clause-filters : goal.returns-clause-filters
returns-clause-filters c tokens = filter_or_fault tokens
