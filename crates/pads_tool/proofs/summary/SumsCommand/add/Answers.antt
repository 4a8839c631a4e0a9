use Rattle.pads_module.specs.Modules.{contents}
use Rattle.pads_tool.proofs.Sums.{over-both, summed-both, within-both}
use Rattle.pads_tool.specs.declared.summed.Summed.{Summed}
use Rattle.pads_tool.proofs.summary.SumsCommand.add.Goals as goal

pub returns-in-Ok : goal.returns-in-Ok
returns-in-Ok c = record {
  tally = λ before rows t s.
      let m = contents c.args.self.now.reader.module in
      let new : Summed = record { summary = c.merge.new.self; clean = c.are_both-tally.result } in
      record {
        is = summed-both m before rows c.args.tally.now c.args.share t.is s.is new (c.in-Ok.ensures.merged before rows) c.in-Ok.ensures.plan c.in-Ok.ensures.spent c.are_both-tally.ensures.both;
        within = within-both m before rows c.args.tally.now c.args.share t.is s.is c.in-Ok.ensures.within;
      };
}

pub returns-in-Err-Fault : goal.returns-in-Err-Fault
returns-in-Err-Fault c = record {
  tally = λ before rows t s.
      over-both (contents c.args.self.now.reader.module) before rows c.args.tally.now c.args.share t.is s.is c.in-Err-Fault.field-0-0
      (rw c.in-Err-Fault.field-0-is at c.in-Err-Fault.ensures.limit);
}
