use Rattle.std.proofs.Common.{refl}
use Rattle.pads_tool.proofs.Counted.{counted-more}
use Rattle.pads_tool.specs.Describing.{is_clean}
use Rattle.pads_tool.proofs.parse.LinesCommand.give.Goals as goal

pub returns-clause-share : goal.returns-clause-share
returns-clause-share c = λ before t. record { is = counted-more is_clean c.args.row.now _ _ c.are_clean.ensures.clean before t.is; within = refl }
