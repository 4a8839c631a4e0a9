use Rattle.pads_module.specs.Modules.{contents}
use Rattle.pads_describe.proofs.Described.{describes}
use Rattle.pads_describe.proofs.describing.describe.Goals as goal

pub returns-in-Ok-clause-described : goal.returns-in-Ok-clause-described
returns-in-Ok-clause-described c =
    describes c.args.text.now c.in_ok-tree.tree c.args.coding _ (contents c.in-Ok.made) c.in_ok-checked.ensures.accepted c.in_ok-checked.ensures.resolved c.in-Ok.ensures.«module»
