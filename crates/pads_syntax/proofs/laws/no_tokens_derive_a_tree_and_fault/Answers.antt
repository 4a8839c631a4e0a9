use Rattle.pads_syntax.proofs.DeclDecides.{decls_ok}
use Rattle.pads_syntax.proofs.TreeLaws.{not_both}
use Rattle.pads_syntax.specs.Declarations.{decls}
use Rattle.pads_syntax.specs.Trees.{description}
use Rattle.pads_syntax.proofs.Trees.{no_tree_and_fault, no_filter_and_fault}
use Rattle.pads_syntax.proofs.laws.no_tokens_derive_a_tree_and_fault.Goals as goal

pub returns-clause-declarations : goal.returns-clause-declarations
returns-clause-declarations c tokens made at = not_both decls description decls_ok tokens made at

pub returns-clause-descriptions : goal.returns-clause-descriptions
returns-clause-descriptions c tokens tree at = no_tree_and_fault tokens tree at

pub returns-clause-filters : goal.returns-clause-filters
returns-clause-filters c tokens tree at = no_filter_and_fault tokens tree at
