use Rattle.pads_syntax.proofs.DeclDecides.{decls_ok}
use Rattle.pads_syntax.proofs.TreeLaws.{one}
use Rattle.pads_syntax.specs.Declarations.{decls}
use Rattle.pads_syntax.specs.Trees.{description}
use Rattle.pads_syntax.proofs.Trees.{one_description, one_filter}
use Rattle.pads_syntax.proofs.laws.tokens_derive_one_tree.Goals as goal

pub returns-clause-declarations : goal.returns-clause-declarations
returns-clause-declarations c tokens made other = one decls description decls_ok tokens made other

pub returns-clause-descriptions : goal.returns-clause-descriptions
returns-clause-descriptions c tokens one other = one_description tokens one other

pub returns-clause-filters : goal.returns-clause-filters
returns-clause-filters c tokens one other = one_filter tokens one other
