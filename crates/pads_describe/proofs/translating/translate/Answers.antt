use Rattle.pads_module.specs.Modules.{contents}
use Rattle.pads_describe.proofs.Described.{never-unformed, tree-keeps, tree-plain, tree-sorted}
use Rattle.pads_describe.proofs.translating.translate.Goals as goal

pub returns-in-Ok-clause-sorted : goal.returns-in-Ok-clause-sorted
returns-in-Ok-clause-sorted c =
    tree-sorted c.args.checked.now.tree.now c.args.checked.now.description c.args.coding c.args.checked.now.clean c.args.checked.now.resolves (contents c.in-Ok.made) c.in-Ok.ensures.«module»

pub returns-in-Ok-clause-plain : goal.returns-in-Ok-clause-plain
returns-in-Ok-clause-plain c =
    tree-plain c.args.checked.now.tree.now c.args.checked.now.description c.args.coding c.args.checked.now.clean c.args.checked.now.resolves (contents c.in-Ok.made) c.in-Ok.ensures.«module»

pub returns-in-Ok-clause-keeps_all : goal.returns-in-Ok-clause-keeps_all
returns-in-Ok-clause-keeps_all c = tree-keeps c.args.checked.now.description c.args.coding (contents c.in-Ok.made) c.in-Ok.ensures.«module»

pub unreachable-requires : goal.unreachable-requires
unreachable-requires c =
    never-unformed c.args.checked.now.tree.now c.args.checked.now.description c.args.coding c.args.checked.now.clean c.args.checked.now.resolves
    (rw c.in-Err-Fault.field-0-is at c.in-Err-Fault.ensures.ill_formed)
