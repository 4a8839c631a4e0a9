use Rattle.pads_module.specs.Modules.{contents}
use Rattle.pads_tool.proofs.Sums.{over-next, piece-more, within-next}
use Rattle.pads_tool.specs.declared.summed.PieceSummed.{PieceSummed}
use Rattle.pads_tool.proofs.summary.SumsCommand.give.Goals as goal

pub returns-in-Ok-clause-share : goal.returns-in-Ok-clause-share
returns-in-Ok-clause-share c = λ rows s.
    let m = contents c.args.self.now.reader.module in
    let new : PieceSummed = record { chunk = c.add.new.self; clean = c.are_clean-share.result } in
    record {
      is = piece-more m rows c.args.row.now c.args.share.now s.is new (c.in-Ok.ensures.added rows) c.in-Ok.ensures.plan c.in-Ok.ensures.spent c.are_clean-share.ensures.clean;
      within = within-next m rows c.args.row.now c.args.share.now s.is s.within c.in-Ok.ensures.within;
    }

pub returns-in-Err-Fault-clause-share : goal.returns-in-Err-Fault-clause-share
returns-in-Err-Fault-clause-share c = λ rows s.
    over-next (contents c.args.self.now.reader.module) rows c.args.row.now c.args.share.now s.is c.in-Err-Fault.field-0-0 s.within
    (rw c.in-Err-Fault.field-0-is at c.in-Err-Fault.ensures.limit)
