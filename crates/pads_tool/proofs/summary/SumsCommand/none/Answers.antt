use Rattle.std.proofs.Common.{◌∙◌}
use Rattle.pads_module.specs.Modules.{contents}
use Rattle.pads_tool.proofs.Sums.{none-in-piece}
use Rattle.pads_tool.proofs.summary.SumsCommand.none.Goals as goal

pub returns : goal.returns
returns c = record {
  none = none-in-piece (contents c.args.self.now.reader.module) c.in_ok-chunk.chunk (c.in_ok-chunk.ensures.plan ∙ c.args.self.now.plan) c.in_ok-chunk.ensures.empty c.in_ok-chunk.ensures.unspent;
}
